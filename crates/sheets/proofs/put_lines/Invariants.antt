-- The text from the record that is reached is still to be written, at the place `at`; each line moves both on, and in the end nothing is
-- left to write.
use Rattle.sheets.proofs.Writing.{ToWrite}
use Rattle.sheets.proofs.put_lines.Given as goal

abbrev pub invariant-loop-r : goal.invariant-loop-r
invariant-loop-r l = ToWrite l.table l.initial.sheet l.r l.at l.sheet
