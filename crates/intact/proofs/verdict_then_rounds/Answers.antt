-- The plain verdict, refused or no, ends the question, and after a yes the rounds answer it.
use mathlib.Core.Path.{◌∙◌}
use Rattle.std.proofs.lemmas.Result.{err_from_is_err_and}
use Rattle.sets.proofs.Members.{everyone-lt, ∖-lt}
use Rattle.intact.proofs.Rounds.{plain_stops, plain_divides, plain_goes_on}
use Rattle.intact.proofs.verdict_then_rounds.Goals as goal

pub returns-in_err-plain : goal.returns-in_err-plain
returns-in_err-plain c =
    let p = err_from_is_err_and c.from_residual.result c.from_residual.ensures.1 in
    rw (p.1, p.2) (plain_stops _ _ _ _ c.in_err-plain.ensures)

pub rounds_from-requires : goal.rounds_from-requires
rounds_from-requires c =
    rw (c.without-well.ensures, c.all.ensures.reads, c.table.ensures.reads) (∖-lt _ _ _ (everyone-lt _))

pub returns-in-Yes : goal.returns-in-Yes
returns-in-Yes c =
    (rw (c.without-well.ensures, c.all.ensures.reads, c.table.ensures.reads) at c.rounds_from.ensures)
    ∙ plain_goes_on _ _ _ _ (rw c.in-Yes.is at c.in_ok-plain.ensures)

pub returns-in-No : goal.returns-in-No
returns-in-No c = plain_divides _ _ _ _ _ _ (rw c.in-No.is at c.in_ok-plain.ensures)
