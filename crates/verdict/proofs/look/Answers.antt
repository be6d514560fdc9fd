-- Each way out is a step of the tree: what was tested so far, and the law for that step.
use Rattle.verdict.proofs.Looks.{dry_leaf, alone, apart, pruned, few_chosen, rest_due, outside}
use Rattle.verdict.proofs.look.Goals as goal

pub returns-then-q-count : goal.returns-then-q-count
returns-then-q-count c = pruned c.requires c.count.ensures.0 c.if-q-count.true

pub greatest_within-h-requires : goal.greatest_within-h-requires
greatest_within-h-requires c = rest_due c.requires c.without-rest.ensures

pub returns-then-h-eq0 : goal.returns-then-h-eq0
returns-then-h-eq0 c =
    alone _ _ _ _ (few_chosen c.requires c.count.ensures.0 c.if-q-count.false) c.in-Quorum.ensures.0 c.in-Quorum.ensures.1
    _ (outside c.requires c.without-rest.ensures c.greatest_within-h.ensures) c.if-h-eq0.true

pub returns-in-Dry : goal.returns-in-Dry
returns-in-Dry c = dry_leaf _ _ _ _ (few_chosen c.requires c.count.ensures.0 c.if-q-count.false) c.in-Dry.ensures

pub returns-in-Waits : goal.returns-in-Waits
returns-in-Waits c =
    record { few = few_chosen c.requires c.count.ensures.0 c.if-q-count.false; waiter = c.in-Waits.ensures }

pub returns-else-h-eq0 : goal.returns-else-h-eq0
returns-else-h-eq0 c =
    apart _ _ _ _ (few_chosen c.requires c.count.ensures.0 c.if-q-count.false) c.in-Quorum.ensures.0 c.in-Quorum.ensures.1
    _ (outside c.requires c.without-rest.ensures c.greatest_within-h.ensures) c.if-h-eq0.false
