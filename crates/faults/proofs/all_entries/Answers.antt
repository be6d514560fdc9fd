-- Up to the record that is reached nothing is wrong, so the first fault from there on is the first of all.
use mathlib.Core.Path.{sym, ap}
use Prim.Native.Nat.{ℕ}
use native.Mathlib.Nat.{sub-zero}
use Rattle.std.proofs.lemmas.Result.{err_from_is_err_and}
use Rattle.sets.specs.Lists.{from}
use Rattle.meanings.specs.Table.{records}
use Rattle.meanings.specs.Faults.{first_fault, entry_fault}
use Rattle.faults.specs.Walk.{entries_from}
use Rattle.faults.proofs.Laws.{walk_stops, walk_goes, walk_ends}
use Rattle.faults.proofs.all_entries.Goals as goal

pub loop-r-init : goal.loop-r-init
loop-r-init c = let t = c.args.t.now in ap (λ (n : ℕ). first_fault (entry_fault t) (from 0 n)) (sym (sub-zero (records t)))

pub returns-in_err-entry : goal.returns-in_err-entry
unfolding records
returns-in_err-entry c =
    let p = err_from_is_err_and c.from_residual.result c.from_residual.ensures.1 in
    let t = c.args.t.now in
    rw (p.1, p.2) (walk_stops (entry_fault t) t (entries_from t 0 (records t)) c.loop-r.r c.loop-r.invariant c.loop-r-test.true c.in_err-entry.field-0.0 c.in_err-entry.ensures)

pub loop-r-preserved : goal.loop-r-preserved
unfolding records
loop-r-preserved c =
    let t = c.args.t.now in
    walk_goes (entry_fault t) t (entries_from t 0 (records t)) c.loop-r.r c.loop-r.invariant c.loop-r-test.true c.in_ok-entry.ensures

pub returns : goal.returns
unfolding records
returns c = let t = c.args.t.now in walk_ends (entry_fault t) t (entries_from t 0 (records t)) c.loop-r.r c.loop-r.invariant c.loop-r-test.false
