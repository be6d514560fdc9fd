-- The words of the records read stand at the front and their first written 0 is known, and the lines from here on come, behind them, to what all lines come
-- to.
use native.Mathlib.Omega.{arith}
use mathlib.Core.Path.{◌≡◌, refl, sym}
use lib.ListN.{length-drop}
use Rattle.lines.proofs.Round.{written_read}
use Rattle.sheets.specs.Sheets.{sheet_lines}
use Rattle.sheets.proofs.Taking.{all_taken, surplus, malformed, one_more, line-some, before_nothing}
use Rattle.sheets.proofs.take_lines.Goals as goal

pub loop-r-init : goal.loop-r-init
unfolding sheet_lines
loop-r-init c = (omega arith, sym (before_nothing (sheet_lines c.args.sheet.now)))

pub returns-then-at-sheet : goal.returns-then-at-sheet
returns-then-at-sheet c = all_taken _ _ _ _ _ c.loop-r.invariant.1 (omega arith) (omega arith)

pub returns-in_default : goal.returns-in_default
returns-in_default c = rw (malformed _ _ _ _ _ c.loop-r.invariant.1 (omega arith) c.loop-r-test.true (sym c.in_default.ensures)) refl

pub put_record-requires : goal.put_record-requires
put_record-requires c = let w = written_read _ _ _ (sym c.in-Some.ensures) in (omega arith, w.level, w.threshold)

pub overflow_add-at : goal.overflow_add-at
overflow_add-at c = omega (arith, (line-some _ _ _ (sym c.in-Some.ensures)).1, length-drop c.loop-r.at c.args.sheet.now)

pub loop-r-preserved : goal.loop-r-preserved
loop-r-preserved c = (
  omega (arith, (line-some _ _ _ (sym c.in-Some.ensures)).1, length-drop c.loop-r.at c.args.sheet.now),
  rw (c.first_nought-nought.ensures, c.put_record.ensures)
      (one_more _ _ _ _ _ c.loop-r.invariant.1 _ _ c.loop-r-test.true (omega arith) (sym c.in-Some.ensures)),
)

pub returns-then-at-sheet-2 : goal.returns-then-at-sheet-2
returns-then-at-sheet-2 c = rw (surplus _ _ _ _ _ c.loop-r.invariant.1 c.if-at-sheet-2.true (omega arith)) refl

pub returns : goal.returns
returns c = let e : c.loop-r.r ≡ 256 = omega arith in rw e at (all_taken _ _ _ _ _ c.loop-r.invariant.1 (omega arith) (omega arith))
