-- A sheet that is read comes to as many words as are counted, which lie within the table; any other gives the line of its reader's answer.
use borrow.Author.Rules.{rules}
use Prim.Native.Nat.{ℕ}
use native.Mathlib.Omega.{arith}
use mathlib.Core.Path.{refl, sym, ◌∙◌, subst}
use mathlib.Core.List.{List}
use lib.Seq.{length-take-le}
use Rattle.answers.specs.Said.{wrote_says}
use Rattle.sheets.specs.Promises.{Put}
use Rattle.report_lines.proofs.Told.{refused-told}
use Rattle.report.proofs.Whole.{words_within, good_sheet, bad_sheet}
use Rattle.report.proofs.report.Goals as goal

pub returns-in_default : goal.returns-in_default
returns-in_default c =
    let r = c.read_sheet-read in
    let a = c.args in
    let e = refused-told c.reply.result _ c.reply.ensures ∙ bad_sheet _ _ _ r.result r.ensures refl _ c.in_default.is in
    subst (λ (x : List ℕ). Put x a.out.now c.report_refused.new.out (wrote_says c.report_refused.result)) e c.report_refused.ensures

pub slice_bounds-table-end : goal.slice_bounds-table-end
slice_bounds-table-end c =
    let r = c.read_sheet-read in
    let h = words_within _ _ _ _ r.ensures refl _ c.in-Ok.is in
    search (rules, h)

pub slice_bounds-report_table-end : goal.slice_bounds-report_table-end
slice_bounds-report_table-end c =
    let r = c.read_sheet-read in
    let h = words_within _ _ _ _ r.ensures refl _ c.in-Ok.is in
    sym (length-take-le c.in-Ok.count r.new.table (omega (arith, h, r.auto.table)))

pub returns : goal.returns
returns c =
    let r = c.read_sheet-read in
    let a = c.args in
    subst (λ (x : List ℕ). Put x a.out.now c.report_table.new.out (wrote_says c.report_table.result))
    (good_sheet _ _ _ _ r.ensures refl _ c.in-Ok.is) c.report_table.ensures
