-- The lines before record r take `need` bytes, so with the text from r on they are the whole text; no line has more than 188 bytes.
use native.Mathlib.Omega.{arith}
use mathlib.Core.Path.{ap, ◌∙◌}
use lib.ListN.{length}
use Rattle.sheets.proofs.Writing.{its_line, few_records, one_counted, all_counted}
use Rattle.sheets.proofs.sheet_len.Goals as goal

pub overflow_add-need : goal.overflow_add-need
overflow_add-need c =
    let e = its_line _ _ _ _ _ c.level.ensures.reads c.threshold.ensures.reads.0 c.members.ensures.reads in
    let n = one_counted _ c.level.ensures.checked _ _ c.loop-r.invariant (omega arith) _ (c.line_len-need.ensures ∙ ap length e) in
    omega (arith, n.few, few_records c.args.table.now c.level.ensures.checked)

pub loop-r-preserved : goal.loop-r-preserved
loop-r-preserved c =
    let e = its_line _ _ _ _ _ c.level.ensures.reads c.threshold.ensures.reads.0 c.members.ensures.reads in
    one_counted _ c.level.ensures.checked _ _ c.loop-r.invariant (omega arith) _ (c.line_len-need.ensures ∙ ap length e)

pub returns : goal.returns
returns c = all_counted _ c.records-r-end.ensures.checked _ _ c.loop-r.invariant (omega arith)
