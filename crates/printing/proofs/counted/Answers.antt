-- All is counted of what was taken, and a write that failed ends it with its error.
use Rattle.std.proofs.lemmas.Result.{err_from_is_err_and}
use Rattle.printing.specs.Printing.{counted_is}
use Rattle.printing.proofs.counted.Goals as goal

pub returns-in_err-taken : goal.returns-in_err-taken
unfolding counted_is
returns-in_err-taken c =
    let p = err_from_is_err_and c.from_residual.result c.from_residual.ensures.1 in
    rw (c.in_err-taken.was, p.1, p.2)

pub returns : goal.returns
unfolding counted_is
returns c = rw c.in_ok-taken.was
