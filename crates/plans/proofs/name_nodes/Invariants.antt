-- The loop keeps the names of the nodes passed, each found from what is written of its quorum set.
use mathlib.Core.Path.{◌≡◌}
use lib.ListN.{length}
use Rattle.plans.specs.Named.{NamedTo}
use Rattle.plans.proofs.name_nodes.Given as goal

abbrev pub invariant-loop-v : goal.invariant-loop-v
invariant-loop-v l = (length l.names ≡ 64) × NamedTo l.heads l.names l.v
