-- The steps of the tree's definition in their order: no quorum in reach that has all chosen nodes, a split, a quorum.
use mathlib.Core.Path.{sym, ◌∙◌}
use Rattle.meanings.specs.Table.{nodes, satisfied}
use Rattle.meanings.specs.Quorums.{minimal_quorum}
use Rattle.listing_visits.specs.Visits.{tree_at, Comes}
use Rattle.listing_visits.specs.declared.Sought.TheVariants.{Quorums}
use Rattle.listing_visits.proofs.Steps.{came, dried, at_quorum, quorums_split, lists, lists_not}
use Rattle.listing_visits.proofs.look_quorums.Goals as goal

pub returns-in-Dry : goal.returns-in-Dry
returns-in-Dry c = dried c.args.plan.now c.args.a c.requires.known c.in-Dry.ensures

pub returns-in-Waits : goal.returns-in-Waits
returns-in-Waits c =
    came (Comes c.args.plan.now Quorums c.args.a) c.choose.ensures
    (quorums_split c.args.plan.now c.args.a c.requires.known c.in-Waits.due c.in-Waits.ensures c.without.result c.without.ensures c.requires.small)

pub returns-then-minimal : goal.returns-then-minimal
returns-then-minimal c =
    let T = c.args.plan.now in
    lists (tree_at (nodes T) (satisfied T) Quorums c.args.a.c c.args.a.r) (minimal_quorum (nodes T) (satisfied T) c.args.a.c) c.args.a.c
    (at_quorum T c.args.a c.requires.known c.in-Quorum.ensures.0 c.in-Quorum.ensures.1) (sym c.minimal.ensures ∙ c.if-minimal.true)

pub returns-else-minimal : goal.returns-else-minimal
returns-else-minimal c =
    let T = c.args.plan.now in
    lists_not (tree_at (nodes T) (satisfied T) Quorums c.args.a.c c.args.a.r) (minimal_quorum (nodes T) (satisfied T) c.args.a.c) c.args.a.c
    (at_quorum T c.args.a c.requires.known c.in-Quorum.ensures.0 c.in-Quorum.ensures.1) (sym c.minimal.ensures ∙ c.if-minimal.false)
