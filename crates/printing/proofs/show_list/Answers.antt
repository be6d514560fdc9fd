-- The sets stand right behind the list's line.
use native.Mathlib.Omega.{arith}
use Prim.Native.Nat.{ℕ, ◌+◌, ◌≤◌}
use mathlib.Core.Path.{◌≡◌}
use mathlib.Core.List.{List, ◌++◌}
use lib.ListN.{length}
use Rattle.words.specs.Words.{word_text}
use Rattle.replies.specs.Shows.{told}
use Rattle.report_lines.specs.Lines.{list_line, set_lines}
use Rattle.report_parts.specs.declared.list_part.ListPart.{ListPart}
use Rattle.report_parts.specs.Parts.{list_text, text_of}
use Rattle.report.specs.Report.{report_on}
use Rattle.printing.specs.Printing.{Stands}
use Rattle.printing.proofs.Laws.{stands_first, stands_second, handed_none, handed_up, handed_more}
use Rattle.printing.proofs.show_list.Goals as goal

-- the line and the sets
abbrev first : ListPart → List ℕ
first l = list_line (word_text l.name) (told l.reply)

abbrev second : ListPart → List ℕ
second l = set_lines (word_text l.letter) l.sets.now

both : (t : List ℕ) (at : ℕ) (l : ListPart) → Stands (report_on t) at (text_of l) → Stands (report_on t) at (first l ++ second l)
unfolding list_text text_of
both t at l s = s

pub show_listed-requires : goal.show_listed-requires
show_listed-requires g c =
    let l = c.args.list.now in
    (stands_first _ _ (first l) (second l) (both _ _ l c.requires.0), omega (arith, c.requires.1))

pub returns-in_err-to : goal.returns-in_err-to
returns-in_err-to g c = handed_none _ _ _ _ c.from_residual.ensures.0

pub show_sets-requires : goal.show_sets-requires
show_sets-requires g c =
    let l = c.args.list.now in
    let shown : (c.in_ok-to.to ≡ c.args.at + length (first l)) × (c.in_ok-to.to ≤ c.args.at + 1092) =
    handed_up (first l) c.args.at 1092 c.show_listed.result c.in_ok-to.to c.in_ok-to.was c.show_listed.ensures in
    (stands_second _ _ (first l) (second l) _ shown.0 (both _ _ l c.requires.0), omega (arith, shown.1, c.requires.1), omega arith)

pub returns : goal.returns
unfolding list_text text_of
returns g c =
    let l = c.args.list.now in
    let shown : (c.in_ok-to.to ≡ c.args.at + length (first l)) × (c.in_ok-to.to ≤ c.args.at + 1092) =
    handed_up (first l) c.args.at 1092 c.show_listed.result c.in_ok-to.to c.in_ok-to.was c.show_listed.ensures in
    handed_more (first l) (second l) _ 1092 _ 1118208 shown c.show_sets.result c.show_sets.ensures
