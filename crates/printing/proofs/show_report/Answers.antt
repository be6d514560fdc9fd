-- The sheet is the one that was read.
use Prim.Native.Nat.{ℕ}
use mathlib.Core.Path.{◌≡◌, refl, subst}
use mathlib.Core.List.{List}
use lib.ListN.{length}
use Rattle.report.specs.Report.{report_of}
use Rattle.printing.specs.Printing.{All}
use Rattle.printing.proofs.From.{was_read, read_sheet}
use Rattle.printing.proofs.show_report.Goals as goal

pub show_read-requires : goal.show_read-requires
show_read-requires g c =
    let r = c.read_sheet-read in
    let room : length r.new.table ≡ 512 = r.auto.table in
    was_read c.args.sheet.now _ r.new.table r.result r.ensures refl room

pub returns : goal.returns
returns g c =
    let r = c.read_sheet-read in
    let s = c.args.sheet.now in
    let room : length r.new.table ≡ 512 = r.auto.table in
    subst (λ (x : List ℕ). All (report_of x) c.show_read.result) (read_sheet s _ r.new.table r.result r.ensures refl room)
    (c.show_read.ensures (was_read s _ r.new.table r.result r.ensures refl room))
