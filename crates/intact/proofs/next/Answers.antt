-- W1 and W2 are the greatest plain quorums, and each way out is one of the three ways of the definition.
use Rattle.sets.proofs.Members.{∖-lt}
use Rattle.intact.proofs.Rounds.{first_empty, second_empty, shared}
use Rattle.intact.proofs.next.Goals as goal

pub plain-w1-requires : goal.plain-w1-requires
plain-w1-requires c = rw c.without.ensures (∖-lt _ _ _ c.requires)

pub plain-w2-requires : goal.plain-w2-requires
plain-w2-requires c = rw c.without-2.ensures (∖-lt _ _ _ c.requires)

pub returns-then-w1-eq0 : goal.returns-then-w1-eq0
returns-then-w1-eq0 c =
    first_empty _ _ _ (record { first = c.args.first; second = c.args.second }) c.plain-w1.result c.plain-w2.result
    (rw c.without.ensures at c.plain-w1.ensures) (rw c.without-2.ensures at c.plain-w2.ensures) c.if-w1-eq0.true

pub returns-then-w2-eq0 : goal.returns-then-w2-eq0
returns-then-w2-eq0 c =
    second_empty _ _ _ (record { first = c.args.first; second = c.args.second }) c.plain-w1.result c.plain-w2.result
    (rw c.without.ensures at c.plain-w1.ensures) (rw c.without-2.ensures at c.plain-w2.ensures) c.if-w1-eq0.false c.if-w2-eq0.true

pub returns : goal.returns
returns c =
    shared _ _ _ (record { first = c.args.first; second = c.args.second }) c.plain-w1.result c.plain-w2.result
    (rw c.without.ensures at c.plain-w1.ensures) (rw c.without-2.ensures at c.plain-w2.ensures) c.if-w1-eq0.false c.if-w2-eq0.false
