-- What a round hands on, or answers, is what the rounds from the start do.
use mathlib.Core.Path.{◌∙◌}
use Rattle.std.proofs.lemmas.Result.{err_from_is_err_and}
use Rattle.intact.proofs.rounds_from.Goals as goal

pub returns-in_err-turn : goal.returns-in_err-turn
returns-in_err-turn c =
    let p = err_from_is_err_and c.from_residual.result c.from_residual.ensures.1 in
    rw (p.1, p.2) (c.in_err-turn.ensures ∙ c.loop-turn.invariant.same)

pub returns-in-Break : goal.returns-in-Break
returns-in-Break c = (rw c.in-Break.is at c.in_ok-turn.ensures) ∙ c.loop-turn.invariant.same

pub loop-turn-smaller : goal.loop-turn-smaller
loop-turn-smaller c = (rw c.in-Continue.is at c.in_ok-turn.ensures).fewer

pub loop-turn-preserved : goal.loop-turn-preserved
loop-turn-preserved c =
    let rest = rw c.in-Continue.is at c.in_ok-turn.ensures in
    record { inside = rest.inside; same = rest.same ∙ c.loop-turn.invariant.same }
