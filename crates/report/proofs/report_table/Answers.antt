-- The four answers and the lines made of them are the report.
use Prim.Native.Nat.{ℕ}
use mathlib.Core.Path.{subst}
use mathlib.Core.List.{List}
use Rattle.answers.specs.Said.{wrote_says}
use Rattle.replies.specs.Shows.{Shows}
use Rattle.sheets.specs.Promises.{Put}
use Rattle.report.proofs.Parts.{whole}
use Rattle.report.proofs.report_table.Goals as goal

pub returns : goal.returns
returns c =
    let a = c.args in
    let e =
    whole a.table.now c.reply-c.result c.reply-v.result c.minimal-m.result c.blocking-b.result c.minimal-m.new.sets c.blocking-b.new.sets
    c.list-quorums.result
    c.list-blocks.result
    c.list-quorums.ensures
    c.list-blocks.ensures
    (subst (Shows c.reply-c.result) c.check_table.ensures c.reply-c.ensures)
    (subst (Shows c.reply-v.result) c.intersect.ensures.told c.reply-v.ensures)
    c.minimal-m.ensures
    c.blocking-b.ensures
    in
    subst (λ (x : List ℕ). Put x a.out.now c.fill.new.out (wrote_says c.fill.result)) e c.fill.ensures
