-- The count, the first pass and the second are asked in this order, and each hands its fault on; the second pass may go by what
-- the first has found in order.
use mathlib.Core.Path.{sym, ap, ap₂, ◌∙◌}
use Prim.Native.Nat.{ℕ}
use Rattle.std.proofs.lemmas.Result.{err_from_is_err_and}
use Rattle.meanings.specs.Table.{records}
use Rattle.meanings.specs.Faults.{Check, or_else, check_lines}
use Rattle.meanings.specs.Questions.{on_check}
use Rattle.tables.proofs.Sound.{lines_shaped}
use Rattle.faults.specs.Walk.{counted, lines_from, entries_from}
use Rattle.faults.proofs.Laws.{told, tells_on, tells_for, count_first, then_passes}
use Rattle.faults.proofs.check_lines.Goals as goal

pub returns-then-bad_count : goal.returns-then-bad_count
returns-then-bad_count c = told (count_first c.args.nought c.args.table.now (sym c.if-bad_count.ensures)) _

pub returns-in_err-nodes : goal.returns-in_err-nodes
returns-in_err-nodes c =
    let p = err_from_is_err_and c.from_residual.result c.from_residual.ensures.1 in
    let t = c.args.table.now in
    let z = c.args.nought in
    let f = c.in_err-nodes.field-0.0 in
    let first = lines_from z t 0 (records t) in
    let second = entries_from t 0 (records t) in
    rw (p.1, p.2)
    (tells_for f (or_else first second) (check_lines z t) (then_passes z t (sym c.if-bad_count.ensures)) (tells_on f first second c.in_err-nodes.ensures) _)

pub all_entries-requires : goal.all_entries-requires
all_entries-requires c = let p = c.in_ok-nodes.ensures in (p.1, lines_shaped c.args.table.now c.args.nought p.0)

pub returns-in_err-all_entries : goal.returns-in_err-all_entries
returns-in_err-all_entries c =
    let p = err_from_is_err_and c.from_residual-in_err-all_entries.result c.from_residual-in_err-all_entries.ensures.1 in
    let t = c.args.table.now in
    let z = c.args.nought in
    let second = entries_from t 0 (records t) in
    let passed = then_passes z t (sym c.if-bad_count.ensures) ∙ ap (λ (x : Check). or_else x second) c.in_ok-nodes.ensures.0 in
    rw (p.1, p.2) (tells_for c.in_err-all_entries.field-0.0 second (check_lines z t) passed c.in_err-all_entries.ensures _)

pub returns : goal.returns
unfolding records
returns c =
    let t = c.args.table.now in
    let z = c.args.nought in
    let second = entries_from t 0 (records t) in
    let passed = then_passes z t (sym c.if-bad_count.ensures) ∙ ap (λ (x : Check). or_else x second) c.in_ok-nodes.ensures.0 in
    ap₂ (λ (x : Check) (n : ℕ). on_check x (counted n (records t))) (sym (passed ∙ c.in_ok-all_entries.ensures)) c.in_ok-nodes.ensures.1
