-- Of a quorum only those whom the struck node touches can be unsatisfied without it.
use mathlib.Core.Path.{◌≡◌, refl}
use Rattle.sets.specs.Sets.{only, ◌∖◌}
use Rattle.tables.proofs.Sound.{node_lt}
use Rattle.greatest.proofs.Laws.{struck_lt, strikes}
use Rattle.greatest.proofs.greatest_without.Goals as goal

pub one-requires : goal.one-requires
one-requires c = node_lt c.args.plan.now c.node-touched.ensures.checked c.args.v (struck_lt c.requires)

pub node-touched-requires : goal.node-touched-requires
node-touched-requires c = struck_lt c.requires

pub greatest_within-requires : goal.greatest_within-requires
greatest_within-requires c =
    let rest_is : c.without-u.result ≡ c.args.g ∖ only c.args.v = rw c.one.ensures at c.without-u.ensures in
    strikes c.requires c.node-touched.ensures.reads c.without-u.result _ rest_is refl

pub returns : goal.returns
returns c =
    let rest_is : c.without-u.result ≡ c.args.g ∖ only c.args.v = rw c.one.ensures at c.without-u.ensures in
    rw rest_is at c.greatest_within.ensures
