-- Known where c has grown; otherwise a quorum there has the nodes that are due.
use mathlib.Core.Path.{◌≡◌, sym, ap, ◌∙◌, subst}
use Prim.Native.Nat.{ℕ}
use Rattle.sets.specs.Sets.{nobody, everyone, ◌∪◌, ◌∖◌}
use Rattle.sets.proofs.Members.{has-nobody, ∖-lt, everyone-lt}
use Rattle.meanings.specs.Table.{nodes, satisfied}
use Rattle.meanings.specs.Quorums.{greatest}
use Rattle.greatest.specs.Greatest.{holding, Due}
use Rattle.greatest.proofs.Below.{all_due, holding-holds}
use Rattle.listing_visits.proofs.Handed.{due_there}
use Rattle.listing_visits.proofs.shut.Goals as goal

pub greatest_within-requires : goal.greatest_within-requires
greatest_within-requires c =
    let T = c.args.plan.now in
    let n = nodes T in
    let all_is = rw c.table.ensures.reads at c.all.ensures.reads in
    let outside_is : c.without-outside.result ≡ everyone n ∖ (c.args.a.c ∪ c.args.a.r) = cc in
    subst (λ (x : ℕ). Due T nobody x x c.args.a.due) (sym outside_is)
    (all_due T nobody (everyone n ∖ (c.args.a.c ∪ c.args.a.r)) c.args.a.due (∖-lt n (everyone n) (c.args.a.c ∪ c.args.a.r) (everyone-lt n)) (λ i p. has-nobody i) c.requires.known.due_in)

pub returns : goal.returns
returns c =
    let T = c.args.plan.now in
    let n = nodes T in
    let all_is = rw c.table.ensures.reads at c.all.ensures.reads in
    let outside_is : c.without-outside.result ≡ everyone n ∖ (c.args.a.c ∪ c.args.a.r) = cc in
    holding-holds n (satisfied T) nobody c.args.a.due (everyone n ∖ (c.args.a.c ∪ c.args.a.r)) c.greatest_within.result
    (c.greatest_within.ensures ∙ ap (λ (x : ℕ). holding c.args.a.due (greatest n (satisfied T) nobody x)) outside_is) (due_there T c.args.a c.requires.known)
