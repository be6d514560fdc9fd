-- Nodes found satisfied are no longer due, with those alike; at the first that is not, not all of the set are.
use mathlib.Core.Path.{sym}
use Rattle.greatest.proofs.Laws.{all_met, first_in, node_lt, not_met, fewer_due, due_less}
use Rattle.greatest.proofs.unmet.Goals as goal

pub node-lowest-requires : goal.node-lowest-requires
node-lowest-requires c =
    let w = c.loop-left.invariant in
    let sd = c.table-t.ensures.checked in
    node_lt sd w c.first.result (first_in sd w c.first.result c.loop-left-test.true c.first.ensures.0)

pub returns-then-not-meets : goal.returns-then-not-meets
returns-then-not-meets c =
    let w = c.loop-left.invariant in
    let sd = c.table-t.ensures.checked in
    let due = first_in sd w c.first.result c.loop-left-test.true c.first.ensures.0 in
    (w, not_met sd w c.first.result due c.node-lowest.ensures.reads (rw c.table-t.ensures.reads at (sym c.if-not-meets.ensures)))

pub loop-left-smaller : goal.loop-left-smaller
loop-left-smaller c =
    let w = c.loop-left.invariant in
    let sd = c.table-t.ensures.checked in
    let due = first_in sd w c.first.result c.loop-left-test.true c.first.ensures.0 in
    rw c.without-left.ensures (due_less sd w c.first.result due c.node-lowest.ensures.reads)

pub loop-left-preserved : goal.loop-left-preserved
loop-left-preserved c =
    let w = c.loop-left.invariant in
    let sd = c.table-t.ensures.checked in
    let due = first_in sd w c.first.result c.loop-left-test.true c.first.ensures.0 in
    rw c.without-left.ensures (fewer_due sd w c.first.result due c.node-lowest.ensures.reads (rw c.table-t.ensures.reads at (sym c.if-not-meets.ensures)))

pub returns : goal.returns
returns c =
    let w = c.loop-left.invariant in
    (rw c.loop-left-test.false at w, all_met c.table-t.ensures.checked w c.loop-left-test.false)
