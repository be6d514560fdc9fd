-- The text from the record that is reached is still to be written, at the place `at`; each line moves both on, and in the end nothing is
-- left to write.
use native.Mathlib.Omega.{arith}
use Rattle.sheets.proofs.Writing.{its_line, line_start, line_room, one_written, all_written}
use Rattle.sheets.proofs.put_lines.Goals as goal

pub slice_bounds-put_line-count : goal.slice_bounds-put_line-count
slice_bounds-put_line-count c = line_start _ _ _ _ _ c.loop-r.invariant c.requires (omega arith)

pub put_line-at-requires : goal.put_line-at-requires
put_line-at-requires c =
    let e = its_line _ _ _ _ _ c.level-level.ensures.reads c.threshold-threshold.ensures.reads.0 c.members-members.ensures.reads in
    rw e (line_room _ _ _ _ _ c.loop-r.invariant c.requires (omega arith))

pub loop-r-preserved : goal.loop-r-preserved
loop-r-preserved c =
    let e = its_line _ _ _ _ _ c.level-level.ensures.reads c.threshold-threshold.ensures.reads.0 c.members-members.ensures.reads in
    one_written _ _ _ _ _ c.loop-r.invariant c.requires (omega arith) _ _ (rw e at c.put_line-at.ensures)

pub returns : goal.returns
returns c = all_written _ _ _ _ _ c.loop-r.invariant c.records-r-end.ensures.checked (omega arith)
