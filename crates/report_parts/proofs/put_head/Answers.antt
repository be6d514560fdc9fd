-- The verdict's line goes right behind that of the nodes.
use native.Mathlib.Omega.{arith}
use Prim.Native.Nat.{ℕ, ◌+◌, ◌-◌, ◌≤◌}
use mathlib.Core.List.{List}
use lib.ListN.{length, take, drop, length-append}
use Rattle.decimal.specs.Bytes.{Written}
use Rattle.decimal.proofs.Place.{room, next}
use Rattle.replies.specs.declared.Reply.{Reply}
use Rattle.replies.specs.Shows.{told}
use Rattle.report_lines.specs.Lines.{nodes_line, verdict_line}
use Rattle.report_parts.specs.Parts.{head_text}
use Rattle.report_parts.proofs.put_head.Goals as goal

fits : (c v : Reply) (out : List ℕ) → length (head_text c v) ≤ length out → length (nodes_line (told c)) + length (verdict_line (told v)) ≤ length out
unfolding head_text
fits c v out h = omega (arith, length-append (nodes_line (told c)) (verdict_line (told v)))

pub put_line-at-requires : goal.put_line-at-requires
put_line-at-requires c = rw c.nodes-nodes.ensures.comes (let h = fits c.args.c c.args.v _ c.requires in omega (arith, h))

pub put_line-requires : goal.put_line-requires
put_line-requires c =
    let w : Written (nodes_line (told c.args.c)) c.args.out.now c.put_line-at.new.out c.put_line-at.result = rw (← c.nodes-nodes.ensures.comes) c.put_line-at.ensures in
    rw c.verdict-verdict.ensures.comes (room _ _ _ _ w _ (fits c.args.c c.args.v _ c.requires))

pub returns : goal.returns
unfolding head_text
returns c =
    let at = c.put_line-at.result in
    let o = c.put_line-at.new.out in
    let w : Written (nodes_line (told c.args.c)) c.args.out.now o at = rw (← c.nodes-nodes.ensures.comes) c.put_line-at.ensures in
    let v : Written (verdict_line (told c.args.v)) (take (length o - at) (drop at o)) c.put_line.new.out c.put_line.result = rw (← c.verdict-verdict.ensures.comes) c.put_line.ensures in
    next _ _ _ _ w _ (fits c.args.c c.args.v _ c.requires) _ _ v
