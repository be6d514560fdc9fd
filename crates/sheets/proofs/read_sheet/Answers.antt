-- What stops the lines is handed on, and so is a fault of their records; the words of a sound table are put.
use mathlib.Core.Path.{◌≡◌}
use lib.ListN.{length, take}
use Rattle.std.proofs.lemmas.Result.{err_from_is_err_and}
use Rattle.meanings.specs.Faults.{check_lines, sound}
use Rattle.meanings.specs.Questions.{on_check}
use Rattle.answers.specs.Said.{fault_says, read_says}
use Rattle.faults.proofs.Known.{lines_sound_known, lines_fault_known}
use Rattle.sheets.specs.Sheets.{room_reply}
use Rattle.sheets.proofs.Filling.{refused_fault, taken_words, read_stops, read_goes}
use Rattle.sheets.proofs.read_sheet.Goals as goal

pub returns-in_err-count : goal.returns-in_err-count
returns-in_err-count c =
    let p = err_from_is_err_and c.from_residual.result c.from_residual.ensures.1 in
    rw (p.1, p.2) (read_stops _ _ _ _ c.in_err-count.ensures)

pub returns-in_err-check_lines : goal.returns-in_err-check_lines
returns-in_err-check_lines c =
    let p = err_from_is_err_and c.from_residual-in_err-check_lines.result c.from_residual-in_err-check_lines.ensures.1 in
    let n = taken_words _ _ _ c.in_ok-count.ensures in
    let l = c.in_ok-count.field-0 in
    let w = take l.count c.take_lines.new.words in
    let f = c.in_err-check_lines.field-0.0 in
    let r = room_reply w (length c.args.table.now) in
    rw (p.1, p.2)
    (read_goes _ _ w l.nought n.0 c.args.table.now (fault_says f)
    (refused_fault w c.args.table.now (on_check (check_lines l.nought w) r) f (lines_fault_known l.nought w f c.in_err-check_lines.ensures r)))

pub returns : goal.returns
returns c =
    let n = taken_words _ _ _ c.in_ok-count.ensures in
    let l = c.in_ok-count.field-0 in
    let w = take l.count c.take_lines.new.words in
    let s : check_lines l.nought w ≡ sound = (lines_sound_known l.nought w c.in_ok-check_lines.field-0 c.in_ok-check_lines.ensures).0 in
    read_goes _ _ w l.nought n.0 c.fill_table.new.table (read_says c.fill_table.result) (rw s c.fill_table.ensures)
