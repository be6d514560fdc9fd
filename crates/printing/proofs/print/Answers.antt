-- The line fits, as is asked; what is handed over is the line.
use native.Mathlib.Omega.{arith}
use Rattle.fields.specs.Fields.{line_of}
use Rattle.printing.specs.Printing.{Handed}
use Rattle.printing.proofs.Laws.{handed_none, handed_up}
use Rattle.printing.proofs.print.Goals as goal

pub returns-in_err-to : goal.returns-in_err-to
returns-in_err-to g c = handed_none _ _ _ _ c.from_residual.ensures.0

pub overflow_add-result : goal.overflow_add-result
overflow_add-result g c =
    let h = handed_up (line_of c.args.fields.now) 0 1092 c.hand.result c.in_ok-to.to c.in_ok-to.was c.hand.ensures in
    omega (arith, h.1, c.requires.0)

pub returns : goal.returns
unfolding Handed
returns g c =
    let h = handed_up (line_of c.args.fields.now) 0 1092 c.hand.result c.in_ok-to.to c.in_ok-to.was c.hand.ensures in
    (omega (arith, h.0), omega (arith, h.1))
