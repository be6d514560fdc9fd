-- A verdict that is refused ends the rounds here, and so does a yes; a no leads on to fewer nodes, from which the rounds answer the same.
use Rattle.std.proofs.lemmas.Result.{err_from_is_err_and}
use Rattle.theory.proofs.Greatest.{greatest-lt}
use Rattle.intact.proofs.Rounds.{stops, ends, goes_on}
use Rattle.intact.proofs.round.Goals as goal

pub returns-in_err-found : goal.returns-in_err-found
returns-in_err-found c =
    let p = err_from_is_err_and c.from_residual.result c.from_residual.ensures.1 in
    rw (p.1, p.2)
    (stops _ _ _ _ _ c.plain-q.ensures _ (rw (c.without-out.ensures, c.all.ensures.reads, c.table.ensures.reads) at c.in_err-found.ensures))

pub next-u-requires : goal.next-u-requires
next-u-requires c = rw c.plain-q.ensures (greatest-lt _ _ _ _)

pub returns-in-Yes : goal.returns-in-Yes
returns-in-Yes c =
    ends _ _ _ _ _ c.plain-q.ensures _ (rw (c.in-Yes.is, c.without-out.ensures, c.all.ensures.reads, c.table.ensures.reads) at c.in_ok-found.ensures)

pub returns-in-No : goal.returns-in-No
returns-in-No c =
    goes_on _ _ _ _ _ c.plain-q.ensures _ _ _ _ (rw (c.in-No.is, c.without-out.ensures, c.all.ensures.reads, c.table.ensures.reads) at c.in_ok-found.ensures)
    c.next-u.ensures
