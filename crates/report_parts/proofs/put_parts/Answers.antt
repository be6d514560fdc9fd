-- Each part goes right behind those before it.
use native.Mathlib.Omega.{arith}
use Prim.Native.Nat.{ℕ, ◌+◌, ◌≤◌}
use mathlib.Core.List.{List, ◌++◌, append_assoc}
use lib.ListN.{length, length-append}
use Rattle.decimal.proofs.Place.{room, next}
use Rattle.replies.specs.declared.Reply.{Reply}
use Rattle.report_parts.specs.declared.list_part.ListPart.{ListPart}
use Rattle.report_parts.specs.Parts.{head_text, text_of, all_text}
use Rattle.report_parts.proofs.put_parts.Goals as goal

module _ (c v : Reply) (quorums blocks : ListPart) (out : List ℕ) (h : length (all_text c v quorums blocks) ≤ length out) where
  two_fit : length (head_text c v) + length (text_of quorums) ≤ length out
  unfolding all_text
  two_fit = omega (arith, length-append (head_text c v) (text_of quorums ++ text_of blocks), length-append (text_of quorums) (text_of blocks))

  all_fit : length (head_text c v ++ text_of quorums) + length (text_of blocks) ≤ length out
  unfolding all_text
  all_fit =
      omega (
        arith,
        length-append (head_text c v) (text_of quorums ++ text_of blocks),
        length-append (text_of quorums) (text_of blocks),
        length-append (head_text c v) (text_of quorums),
      )

pub put_head-head-requires : goal.put_head-head-requires
put_head-head-requires c = let a = c.args in let h = two_fit a.c a.v a.quorums.now a.blocks.now _ c.requires in omega (arith, h)

pub put_list-requires : goal.put_list-requires
put_list-requires c = let a = c.args in room _ _ _ _ c.put_head-head.ensures _ (two_fit a.c a.v a.quorums.now a.blocks.now _ c.requires)

pub put_list-requires-2 : goal.put_list-requires-2
put_list-requires-2 c =
    let a = c.args in
    let w = next _ _ _ _ c.put_head-head.ensures _ (two_fit a.c a.v a.quorums.now a.blocks.now _ c.requires) _ _ c.put_list.ensures in
    room _ _ _ _ w _ (all_fit a.c a.v a.quorums.now a.blocks.now _ c.requires)

pub returns : goal.returns
unfolding all_text
returns c =
    let a = c.args in
    let w = next _ _ _ _ c.put_head-head.ensures _ (two_fit a.c a.v a.quorums.now a.blocks.now _ c.requires) _ _ c.put_list.ensures in
    rw (← append_assoc (head_text a.c a.v) (text_of a.quorums.now) (text_of a.blocks.now))
    (next _ _ _ _ w _ (all_fit a.c a.v a.quorums.now a.blocks.now _ c.requires) _ _ c.put_list-2.ensures)
