-- Either the buffer is too short, or all parts are put.
use native.Mathlib.Omega.{arith}
use Prim.Native.Nat.{ℕ, ◌+◌}
use mathlib.Core.Path.{◌≡◌}
use mathlib.Core.List.{◌++◌}
use lib.ListN.{length, length-append}
use Rattle.fields.specs.Fields.{Counted}
use Rattle.replies.specs.declared.Reply.{Reply}
use Rattle.sheets.proofs.Filling.{too_short, put}
use Rattle.report_parts.specs.declared.list_part.ListPart.{ListPart}
use Rattle.report_parts.specs.Parts.{head_text, text_of, all_text}
use Rattle.report.proofs.fill.Goals as goal

-- what is measured of the three parts is the length of all
measured : (c v : Reply) (quorums blocks : ListPart) (h q b x y z : ℕ) → Counted (head_text c v) x h → Counted (text_of quorums) y q → Counted (text_of blocks) z b
    → h + (q + b) ≡ length (all_text c v quorums blocks)
unfolding all_text
measured c v quorums blocks h q b x y z e f g =
    omega (
      arith,
      e.long,
      f.long,
      g.long,
      length-append (head_text c v) (text_of quorums ++ text_of blocks),
      length-append (text_of quorums) (text_of blocks),
    )

pub returns-then-out-need : goal.returns-then-out-need
returns-then-out-need c =
    let a = c.args in
    let need = measured a.c a.v a.quorums.now a.blocks.now _ _ _ _ _ _ c.head_len.ensures c.list_len.ensures c.list_len-2.ensures in
    rw need (too_short (all_text a.c a.v a.quorums.now a.blocks.now) a.out.now (omega (arith, need)))

pub put_parts-requires : goal.put_parts-requires
put_parts-requires c =
    let a = c.args in
    let need = measured a.c a.v a.quorums.now a.blocks.now _ _ _ _ _ _ c.head_len.ensures c.list_len.ensures c.list_len-2.ensures in
    omega (arith, need)

pub returns : goal.returns
returns c =
    let a = c.args in
    let need = measured a.c a.v a.quorums.now a.blocks.now _ _ _ _ _ _ c.head_len.ensures c.list_len.ensures c.list_len-2.ensures in
    rw need (put (all_text a.c a.v a.quorums.now a.blocks.now) a.out.now c.put_parts.new.out (omega (arith, need)) c.put_parts.ensures.bytes)
