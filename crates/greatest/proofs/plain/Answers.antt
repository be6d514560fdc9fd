-- Every node is due, and none has to stay.
use mathlib.Core.Path.{sym, ◌∙◌}
use Rattle.sets.specs.Sets.{nobody}
use Rattle.sets.proofs.Members.{has-nobody}
use Rattle.meanings.specs.Table.{nodes, satisfied}
use Rattle.meanings.specs.Quorums.{greatest}
use Rattle.greatest.proofs.Laws.{holding-nobody}
use Rattle.greatest.proofs.Below.{all_due, none_within}
use Rattle.greatest.proofs.plain.Goals as goal

pub greatest_within-requires : goal.greatest_within-requires
greatest_within-requires c = all_due c.args.plan.now nobody c.args.u nobody c.requires (λ i p. has-nobody i) (none_within c.args.u)

pub returns : goal.returns
returns c =
    c.greatest_within.ensures ∙ sym (holding-nobody (greatest (nodes c.args.plan.now) (satisfied c.args.plan.now) nobody c.args.u))
