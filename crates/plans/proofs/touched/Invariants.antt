-- The loop gathers the nodes passed that name any of `like`.
use Rattle.plans.specs.Named.{TouchedTo}
use Rattle.plans.proofs.touched.Given as goal

abbrev pub invariant-loop-i : goal.invariant-loop-i
invariant-loop-i l = TouchedTo l.names l.like l.all l.i
