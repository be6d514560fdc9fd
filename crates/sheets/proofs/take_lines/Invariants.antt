-- The words of the records read stand at the front and their first written 0 is known, and the lines from here on come, behind them, to what all lines come
-- to.
use Prim.Native.Nat.{◌≤◌}
use lib.ListN.{length}
use Rattle.sheets.proofs.Taking.{TakenUpTo}
use Rattle.sheets.proofs.take_lines.Given as goal

abbrev pub invariant-loop-r : goal.invariant-loop-r
invariant-loop-r l = (l.at ≤ length l.sheet) × TakenUpTo l.sheet l.words l.at l.r l.nought
