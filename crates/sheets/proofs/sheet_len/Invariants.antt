-- The lines before record r take `need` bytes, so with the text from r on they are the whole text; no line has more than 188 bytes.
use Rattle.sheets.proofs.Writing.{Counted}
use Rattle.sheets.proofs.sheet_len.Given as goal

abbrev pub invariant-loop-r : goal.invariant-loop-r
invariant-loop-r l = Counted l.table l.r l.need
