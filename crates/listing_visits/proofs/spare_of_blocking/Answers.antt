-- The nodes outside what is left without the node, where they hold a quorum that has it.
use mathlib.Core.Path.{◌≡◌, sym, ap, ◌∙◌, subst}
use Prim.Native.Nat.{ℕ, ◌<◌, ◌^◌}
use Rattle.sets.specs.Sets.{nobody, everyone, only, ◌∖◌}
use Rattle.sets.proofs.Members.{has_below, has-nobody, ∖-lt, everyone-lt}
use Rattle.meanings.specs.Table.{nodes, satisfied}
use Rattle.meanings.specs.Quorums.{greatest}
use Rattle.satisfaction.proofs.Monotone.{satisfied_monotone}
use Rattle.greatest.specs.Greatest.{holding}
use Rattle.greatest.proofs.Below.{all_due}
use Rattle.listing_visits.proofs.Laws.{spares_blocking, one_outside}
use Rattle.listing_visits.proofs.spare_of_blocking.Goals as goal

pub one-one-requires : goal.one-one-requires
one-one-requires c = has_below 64 c.args.c c.args.v c.ranges.c.fits c.requires.1

pub greatest_within-requires : goal.greatest_within-requires
greatest_within-requires c =
    let T = c.args.plan.now in
    let n = nodes T in
    let node_lt : c.args.v < n = has_below n c.args.c c.args.v c.requires.0.below c.requires.1 in
    let all_is = rw c.table.ensures.reads at c.all.ensures.reads in
    let outside_is : c.without-outside.result ≡ everyone n ∖ (c.args.c ∖ only c.args.v) = cc in
    all_due T nobody c.without-outside.result c.one-one.result
    (subst (λ (x : ℕ). x < 2 ^ n) (sym outside_is) (∖-lt n (everyone n) (c.args.c ∖ only c.args.v) (everyone-lt n))) (λ i p. has-nobody i)
    (one_outside n c.args.c c.args.v node_lt c.one-one.result c.one-one.ensures c.without-outside.result outside_is)

pub returns : goal.returns
returns c =
    let T = c.args.plan.now in
    let n = nodes T in
    let node_lt : c.args.v < n = has_below n c.args.c c.args.v c.requires.0.below c.requires.1 in
    let all_is = rw c.table.ensures.reads at c.all.ensures.reads in
    let outside_is : c.without-outside.result ≡ everyone n ∖ (c.args.c ∖ only c.args.v) = cc in
    spares_blocking n (satisfied T) (satisfied_monotone T) c.args.c c.args.v c.greatest_within.result c.requires.0.below node_lt c.requires.0.is_one
    (c.greatest_within.ensures
    ∙ ap (λ (x : ℕ). holding x (greatest n (satisfied T) nobody c.without-outside.result)) c.one-one.ensures
    ∙ ap (λ (x : ℕ). holding (only c.args.v) (greatest n (satisfied T) nobody x)) outside_is)
