-- Node v is new among the nodes outside c and r.
use mathlib.Core.Path.{ap, ◌∙◌}
use Prim.Native.Nat.{ℕ}
use Rattle.sets.specs.Sets.{◌∖◌}
use Rattle.listing_visits.proofs.Handed.{open_64, leave_blocking}
use Rattle.listing_visits.proofs.leave_blocking.Goals as goal

pub one-one-requires : goal.one-one-requires
one-one-requires c =
    open_64 c.args.plan.now c.args.a c.requires.0 c.args.v c.requires.1

pub returns : goal.returns
returns c =
    leave_blocking c.args.plan.now c.args.a c.requires.0 c.args.v c.requires.1
    c.one-one.result c.without.result c.one-one.ensures (c.without.ensures ∙ ap (λ (x : ℕ). c.args.a.r ∖ x) c.one-one.ensures)
