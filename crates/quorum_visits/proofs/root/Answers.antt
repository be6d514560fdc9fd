-- Every node is judged for the greatest quorum among the open ones.
use mathlib.Core.Path.{sym, ap, ◌∙◌}
use mathlib.Core.Bool.{true}
use Prim.Native.Nat.{ℕ}
use Rattle.sets.specs.Sets.{nobody}
use Rattle.meanings.specs.Table.{nodes, satisfied}
use Rattle.meanings.specs.Quorums.{greatest}
use Rattle.greatest.proofs.Laws.{holding-nobody}
use Rattle.greatest.proofs.Below.{all_due, none_within}
use Rattle.quorum_visits.specs.declared.Visit.{Visit}
use Rattle.quorum_visits.proofs.Laws.{starts}
use Rattle.quorum_visits.proofs.root.Goals as goal

-- the root, with its greatest quorum
abbrev with_greatest : ℕ → ℕ → Visit
with_greatest u g = record { c = nobody; r = u; g = g; due = nobody; grown = true }

pub greatest_within-requires : goal.greatest_within-requires
greatest_within-requires c =
    all_due c.args.plan.now c.args.d c.args.u nobody c.requires.0 c.requires.1 (none_within c.args.u)

pub returns : goal.returns
returns c =
    let T = c.args.plan.now in
    let e = c.greatest_within.ensures ∙ sym (holding-nobody (greatest (nodes T) (satisfied T) c.args.d c.args.u)) in (
      starts T c.args.d c.args.u c.greatest_within.result c.requires.0 c.greatest_within.ensures,
      ap (λ (x : ℕ). with_greatest c.args.u x) e,
    )
