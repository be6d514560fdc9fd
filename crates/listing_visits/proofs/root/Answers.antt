-- The same for both trees: with no node chosen, all nodes are in reach, and all lie outside.
use mathlib.Core.Path.{ap, sym, subst, ◌∙◌}
use Rattle.sets.specs.Sets.{nobody}
use Rattle.sets.proofs.Members.{has-nobody}
use Rattle.quorum_visits.specs.declared.Visit.{Visit}
use Rattle.quorum_visits.specs.Visits as Branches
use Rattle.listing_visits.specs.Visits.{Stands}
use Rattle.listing_visits.proofs.Handed.{all-lt, starts}
use Rattle.listing_visits.proofs.root.Goals as goal

pub root-requires : goal.root-requires
root-requires c = (all-lt c.args.plan.now (rw c.table.ensures.reads at c.all.ensures.reads), λ i p. has-nobody i)

pub returns : goal.returns
returns c =
    let all_is = rw c.table.ensures.reads at c.all.ensures.reads in
    let e = c.root.ensures.1 in (
      subst (Stands c.args.plan.now c.args.sought) (sym e)
          (starts c.args.plan.now all_is (subst (Branches.Stands c.args.plan.now nobody) e c.root.ensures.0) c.table.ensures.checked c.args.sought),
      ap (λ (x : Visit). x.c) e,
      ap (λ (x : Visit). x.r) e ∙ all_is,
    )
