-- The lines are the list's part of the report, and there are no more than 1,024 sets.
use native.Mathlib.Omega.{arith}
use Prim.Native.Nat.{ℕ}
use mathlib.Core.Path.{◌≡◌, sym, ap}
use lib.ListN.{length, length-take}
use Rattle.words.specs.declared.Word.TheVariants.{Minimal, Q}
use Rattle.report_parts.specs.Parts.{following, text_of}
use Rattle.report.specs.Report.{minimal_part}
use Rattle.report.proofs.Parts.{text_is}
use Rattle.printing.proofs.Laws.{stands_as, handed_as}
use Rattle.printing.proofs.show_minimal.Goals as goal

pub show_list-requires : goal.show_list-requires
show_list-requires g c =
    let m = c.minimal-listed in
    let part : text_of c.list-list.result ≡ minimal_part c.args.table.now = text_is Minimal Q m.result m.new.sets _ _ c.list-list.ensures m.ensures in
    (stands_as _ _ _ _ (sym part) c.requires.0, c.requires.1, omega (arith, ap (length {A = ℕ}) c.list-list.ensures.follows, length-take (following m.result) m.new.sets, m.ensures.few))

pub returns : goal.returns
returns g c =
    let m = c.minimal-listed in
    let part : text_of c.list-list.result ≡ minimal_part c.args.table.now = text_is Minimal Q m.result m.new.sets _ _ c.list-list.ensures m.ensures in
    handed_as _ _ _ _ _ part c.show_list.ensures
