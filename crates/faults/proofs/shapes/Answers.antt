-- Up to the record that is reached nothing is wrong, so the first fault from there on is the first of all; and the nodes counted
-- are those that the records before it open.
use mathlib.Core.Path.{◌≡◌, sym, ap, ◌∙◌}
use Prim.Native.Nat.{ℕ}
use native.Mathlib.Nat.{sub-zero}
use native.Mathlib.Omega.{arith}
use Rattle.std.proofs.lemmas.Result.{err_from_is_err_and}
use Rattle.meanings.specs.Table.{records}
use Rattle.meanings.specs.Faults.{line_fault, first_fault}
use Rattle.sets.specs.Lists.{from}
use Rattle.tables.specs.Heads.{heads_before}
use Rattle.tables.proofs.Heads.{before_first, before-all}
use Rattle.faults.specs.Walk.{lines_from}
use Rattle.faults.proofs.Laws.{walk_stops, walk_goes, walk_ends}
use Rattle.faults.proofs.shapes.Goals as goal

pub loop-r-init : goal.loop-r-init
loop-r-init c =
    let t = c.args.t.now in
    (sym (before_first t), ap (λ (n : ℕ). first_fault (line_fault c.args.nought t) (from 0 n)) (sym (sub-zero (records t))))

pub line-requires : goal.line-requires
line-requires c = (omega arith, c.loop-r.invariant.0)

pub returns-in_err-nodes : goal.returns-in_err-nodes
unfolding records
returns-in_err-nodes c =
    let p = err_from_is_err_and c.from_residual.result c.from_residual.ensures.1 in
    let t = c.args.t.now in
    let z = c.args.nought in
    rw (p.1, p.2) (walk_stops (line_fault z t) t (lines_from z t 0 (records t)) c.loop-r.r c.loop-r.invariant.1 c.loop-r-test.true c.in_err-nodes.field-0.0 c.in_err-nodes.ensures)

pub loop-r-preserved : goal.loop-r-preserved
unfolding records
loop-r-preserved c =
    let t = c.args.t.now in
    let z = c.args.nought in
    let p = c.in_ok-nodes.ensures in
    (p.1, walk_goes (line_fault z t) t (lines_from z t 0 (records t)) c.loop-r.r c.loop-r.invariant.1 c.loop-r-test.true p.0)

pub returns : goal.returns
unfolding records
returns c =
    let t = c.args.t.now in
    let z = c.args.nought in
    let d : c.loop-r.r ≡ records t = omega (arith, c.loop-r.auto.r-end, c.loop-r-test.false) in (
      walk_ends (line_fault z t) t (lines_from z t 0 (records t)) c.loop-r.r c.loop-r.invariant.1 c.loop-r-test.false,
      c.loop-r.invariant.0 ∙ ap (heads_before t) d ∙ before-all t,
    )
