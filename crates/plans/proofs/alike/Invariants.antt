-- The loop keeps the node itself and those passed whose quorum sets are written the same, which makes them alike.
use Rattle.plans.specs.Alike.{LikeNode}
use Rattle.plans.proofs.alike.Given as goal

abbrev pub invariant-loop-i : goal.invariant-loop-i
invariant-loop-i l = LikeNode l.heads l.v l.like
