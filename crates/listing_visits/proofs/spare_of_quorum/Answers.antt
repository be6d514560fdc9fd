-- What is left of the quorum without the node, where it has all that are done.
use mathlib.Core.Path.{sym, ap, ◌∙◌, subst}
use Prim.Native.Nat.{ℕ}
use Rattle.sets.specs.Sets.{nobody, only, ◌∖◌}
use Rattle.meanings.specs.Table.{nodes, satisfied}
use Rattle.meanings.specs.Quorums.{greatest}
use Rattle.satisfaction.proofs.Monotone.{satisfied_monotone}
use Rattle.greatest.specs.Greatest.{holding, Striking}
use Rattle.greatest.proofs.Below.{closed_quorum}
use Rattle.listing_visits.proofs.Laws.{spares_quorum, done_stay, left_in}
use Rattle.listing_visits.proofs.spare_of_quorum.Goals as goal

pub greatest_without-requires : goal.greatest_without-requires
greatest_without-requires c =
    let T = c.args.plan.now in
    let C = closed_quorum T nobody c.args.c c.requires.0.is_one in
    subst (Striking T nobody c.args.c c.args.v) (sym c.without.ensures)
    (record {
      closed = C;
      one_in = left_in (nodes T) (satisfied T) _ c.args.c c.args.left c.requires.1 c.args.v c.requires.2;
      must_in = done_stay (nodes T) c.args.c c.args.left c.args.v C.below c.requires.2;
    })

pub returns : goal.returns
returns c =
    let T = c.args.plan.now in
    spares_quorum (nodes T) (satisfied T) (satisfied_monotone T) c.args.c c.args.v c.args.left c.greatest_without.result
    c.requires.0.below c.requires.1
    (c.greatest_without.ensures ∙ ap (λ (x : ℕ). holding x (greatest (nodes T) (satisfied T) nobody (c.args.c ∖ only c.args.v))) c.without.ensures)
