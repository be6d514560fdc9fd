-- Of each record its members are gathered; then the next are those of what is left.
use mathlib.Core.Path.{◌≡◌}
use Rattle.plans.proofs.Naming.{Gathering}
use Rattle.plans.proofs.named.Given as goal

abbrev pub invariant-loop-record : goal.invariant-loop-record
invariant-loop-record l = (l.record-iterator.size ≡ 2) × Gathering l.set l.all l.record-iterator.rest.now
