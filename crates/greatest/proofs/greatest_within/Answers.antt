-- Those present keep the greatest quorum that was asked for: nodes judged satisfied are no longer left to judge, unsatisfied ones are
-- struck, and then those they touch are left to judge.
use mathlib.Core.Path.{sym, refl}
use Rattle.greatest.proofs.Laws.{node_lt, done, passed, passed_less, lost, struck, struck_less}
use Rattle.greatest.proofs.greatest_within.Goals as goal

pub loop-left-init : goal.loop-left-init
loop-left-init c = record { due = c.requires; same = refl }

pub node-node-requires : goal.node-node-requires
node-node-requires c = node_lt c.table-t.ensures.checked c.loop-left.invariant.due.waiting c.next.result c.next.ensures.0

pub loop-left-smaller-then-meets : goal.loop-left-smaller-then-meets
loop-left-smaller-then-meets c =
    rw c.without-left.ensures (passed_less c.table-t.ensures.checked c.loop-left.invariant c.next.result c.next.ensures.0 c.node-node.ensures.reads)

pub loop-left-preserved-then-meets : goal.loop-left-preserved-then-meets
loop-left-preserved-then-meets c =
    rw c.without-left.ensures
    (passed c.table-t.ensures.checked c.loop-left.invariant c.next.result c.next.ensures.0 c.node-node.ensures.reads
    (rw c.table-t.ensures.reads at (sym c.if-meets.ensures)))

pub returns-then-must-present : goal.returns-then-must-present
returns-then-must-present c =
    lost c.table-t.ensures.checked c.loop-left.invariant c.next.result c.next.ensures.0 c.node-node.ensures.reads
    (rw c.table-t.ensures.reads at (sym c.if-meets.ensures))
    (rw c.without-present.ensures at c.if-must-present.true)

pub loop-left-smaller : goal.loop-left-smaller
loop-left-smaller c =
    rw c.without-present.ensures (struck_less c.table-t.ensures.checked c.loop-left.invariant c.next.result c.next.ensures.0 c.node-node.ensures.reads)

pub loop-left-preserved : goal.loop-left-preserved
loop-left-preserved c =
    rw c.without-present.ensures
    (struck c.table-t.ensures.checked c.loop-left.invariant c.next.result c.next.ensures.0 c.node-node.ensures.reads
    (rw c.table-t.ensures.reads at (sym c.if-meets.ensures))
    (rw c.without-present.ensures at c.if-must-present.false))

pub returns : goal.returns
returns c = done c.table-t.ensures.checked c.loop-left.invariant c.loop-left-test.false
