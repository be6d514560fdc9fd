-- A record that meets one of 2 to 5 hands it on; any other meets 5 where its threshold is the first written 0.
use mathlib.Core.Path.{ap, ◌∙◌}
use Prim.Native.Nat.{suc}
use lib.Dec.{eqb}
use Rattle.std.proofs.lemmas.Result.{err_from_is_err_and}
use Rattle.meanings.specs.Faults.{fault, fault_if, shape_fault, line_fault}
use Rattle.faults.proofs.Laws.{told, tells_on, written-zero, none_written}
use Rattle.faults.proofs.line.Goals as goal

pub returns-in_err-nodes : goal.returns-in_err-nodes
unfolding line_fault
returns-in_err-nodes c =
    let p = err_from_is_err_and c.from_residual.result c.from_residual.ensures.1 in
    let f = c.in_err-nodes.field-0.0 in
    rw (p.1, p.2) (tells_on f (shape_fault c.args.t.now c.args.r) (fault_if (eqb (suc c.args.r) c.args.nought) 5 (suc c.args.r)) c.in_err-nodes.ensures)

pub returns-then-r-nought : goal.returns-then-r-nought
returns-then-r-nought c =
    let e = c.if-r-nought.true in
    let p = c.in_ok-nodes.ensures in
    told (written-zero c.args.t.now c.args.r c.args.nought p.0 e ∙ ap (fault 5) e)

pub returns : goal.returns
returns c =
    let p = c.in_ok-nodes.ensures in
    (none_written c.args.t.now c.args.r c.args.nought p.0 c.if-r-nought.false, p.1)
