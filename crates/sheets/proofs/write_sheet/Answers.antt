-- A fault of the table is handed on, and a sound table is put.
use lib.ListN.{length}
use Rattle.std.proofs.lemmas.Result.{err_from_is_err_and}
use Rattle.meanings.specs.Faults.{check}
use Rattle.meanings.specs.Questions.{on_check}
use Rattle.sheets.specs.Sheets.{sheet_text, room_reply, write_reply}
use Rattle.sheets.proofs.Filling.{refused_fault}
use Rattle.sheets.proofs.write_sheet.Goals as goal

pub returns-in_err-table : goal.returns-in_err-table
unfolding write_reply
returns-in_err-table c =
    let a = c.args in
    let t = a.table.now in
    let p = err_from_is_err_and c.from_residual.result c.from_residual.ensures.1 in
    let r = room_reply (sheet_text t) (length a.sheet.now) in
    rw (p.1, p.2)
    (refused_fault (sheet_text t) a.sheet.now (on_check (check t) r) c.in_err-table.field-0.0 (c.in_err-table.ensures r))

pub returns : goal.returns
unfolding write_reply
returns c = let t = c.in_ok-table.ensures in rw t.1 (rw t.0 at c.fill_sheet.ensures)
