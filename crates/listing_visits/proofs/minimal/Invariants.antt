-- The nodes of c are taken out one after another, the lowest first; those that are out cannot be spared.
use Rattle.sets.specs.Sets.{size}
use Rattle.meanings.specs.Table.{nodes, satisfied}
use Rattle.listing_visits.specs.Visits.{Left}
use Rattle.listing_visits.proofs.minimal.Given as goal

abbrev pub invariant-loop-left : goal.invariant-loop-left
invariant-loop-left l = Left (nodes l.plan) (satisfied l.plan) l.sought l.c l.left

abbrev pub decreases-loop-left : goal.decreases-loop-left
decreases-loop-left l = size 64 l.left
