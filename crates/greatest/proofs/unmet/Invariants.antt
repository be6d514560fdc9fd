-- Nodes found satisfied are no longer due, with those alike; at the first that is not, not all of the set are.
use Rattle.sets.specs.Sets.{size}
use Rattle.greatest.specs.Greatest.{Waiting}
use Rattle.greatest.proofs.unmet.Given as goal

abbrev pub invariant-loop-left : goal.invariant-loop-left
invariant-loop-left l = Waiting l.plan l.d l.c l.left

abbrev pub decreases-loop-left : goal.decreases-loop-left
decreases-loop-left l = size 64 l.left
