-- The sets go right behind the list's line.
use native.Mathlib.Omega.{arith}
use Prim.Native.Nat.{ℕ, ◌+◌, ◌≤◌}
use mathlib.Core.List.{List}
use lib.ListN.{length, length-append}
use Rattle.decimal.specs.Bytes.{Written}
use Rattle.decimal.proofs.Place.{room, next}
use Rattle.replies.specs.Shows.{told}
use Rattle.words.specs.Words.{word_text}
use Rattle.report_lines.specs.Lines.{list_line, set_lines}
use Rattle.report_parts.specs.declared.list_part.ListPart.{ListPart}
use Rattle.report_parts.specs.Parts.{list_text, text_of}
use Rattle.report_parts.proofs.put_list.Goals as goal

abbrev line : ListPart → List ℕ
line l = list_line (word_text l.name) (told l.reply)

abbrev sets : ListPart → List ℕ
sets l = set_lines (word_text l.letter) l.sets.now

fits : (l : ListPart) (out : List ℕ) → length (text_of l) ≤ length out → length (line l) + length (sets l) ≤ length out
unfolding list_text text_of
fits l out h = omega (arith, length-append (line l) (sets l))

pub put_line-at-requires : goal.put_line-at-requires
put_line-at-requires c = rw c.listed-line.ensures.comes (let h = fits c.args.list.now _ c.requires in omega (arith, h))

pub put_sets-requires : goal.put_sets-requires
put_sets-requires c =
    let w : Written (line c.args.list.now) c.args.out.now c.put_line-at.new.out c.put_line-at.result = rw (← c.listed-line.ensures.comes) c.put_line-at.ensures in
    room _ _ _ _ w _ (fits c.args.list.now _ c.requires)

pub returns : goal.returns
unfolding list_text text_of
returns c =
    let w : Written (line c.args.list.now) c.args.out.now c.put_line-at.new.out c.put_line-at.result = rw (← c.listed-line.ensures.comes) c.put_line-at.ensures in
    next _ _ _ _ w _ (fits c.args.list.now _ c.requires) _ _ c.put_sets.ensures
