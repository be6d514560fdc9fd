-- The nodes passed are planned, each at its number, and the plan in hand is that of all who are alike.
use mathlib.Core.Path.{◌≡◌}
use lib.ListN.{length}
use Rattle.plans.specs.Plans.{PlannedTo}
use Rattle.plans.proofs.Planning.{Shared}
use Rattle.plans.proofs.Plan.new.Given as goal

abbrev pub invariant-loop-v : goal.invariant-loop-v
invariant-loop-v l = (length l.nodes ≡ 64) × PlannedTo l.table l.nodes l.v × Shared l.table l.node
