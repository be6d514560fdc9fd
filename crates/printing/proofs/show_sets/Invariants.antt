-- What is left of the lines stands behind what is handed over; each turn hands one line more over.
use Prim.Native.Nat.{ℕ, ◌+◌, ◌*◌, ◌≤◌}
use mathlib.Core.Path.{◌≡◌}
use mathlib.Core.List.{List}
use lib.ListN.{length, drop}
use Rattle.words.specs.declared.Word.{Word}
use Rattle.words.specs.Words.{word_text}
use Rattle.report_lines.specs.Lines.{set_lines}
use Rattle.report.specs.Report.{report_on}
use Rattle.printing.specs.Printing.{Stands}
use Rattle.printing.proofs.show_sets.Given as goal

pub record Sofar (table : List ℕ) (at : ℕ) (letter : Word) (sets : List ℕ) (place i : ℕ) : Type 0 where
  pub few : length sets ≤ 1024
  pub stands : Stands (report_on table) place (set_lines (word_text letter) (drop i sets))
  pub counted : place + length (set_lines (word_text letter) (drop i sets)) ≡ at + length (set_lines (word_text letter) sets)
  pub within : place ≤ at + 1092 * i
  pub low : at ≤ 2000000

abbrev pub invariant-loop-set : goal.invariant-loop-set
invariant-loop-set g l = Sofar l.table l.at l.letter l.sets l.place l.set-index
