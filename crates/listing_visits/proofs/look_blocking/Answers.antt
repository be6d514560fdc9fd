-- The steps of the tree's definition in their order: a quorum outside c and r, a split, c blocks.
use mathlib.Core.Path.{sym, ◌∙◌}
use Rattle.meanings.specs.Table.{nodes, satisfied}
use Rattle.meanings.specs.Quorums.{minimal_blocking}
use Rattle.listing_visits.specs.Visits.{tree_at, Comes}
use Rattle.listing_visits.specs.declared.Sought.TheVariants.{Blocking}
use Rattle.listing_visits.proofs.Steps.{came, quorum_outside, none-blocks, at_blocking_lem, blocking_split, lists, lists_not}
use Rattle.listing_visits.proofs.look_blocking.Goals as goal

pub returns-then-shut : goal.returns-then-shut
returns-then-shut c = quorum_outside c.args.plan.now c.args.a c.requires.known (sym c.shut.ensures ∙ c.if-shut.true)

pub returns-then-a-ne0 : goal.returns-then-a-ne0
returns-then-a-ne0 c =
    came (Comes c.args.plan.now Blocking c.args.a) c.choose.ensures
    (blocking_split c.args.plan.now c.args.a c.requires.known (sym c.shut.ensures ∙ c.if-shut.false)
    c.requires.open_in c.requires.small c.if-a-ne0.true 0)

pub minimal-requires : goal.minimal-requires
minimal-requires c =
    record {
      below = c.requires.chosen_in;
      is_one = none-blocks c.args.plan.now c.args.a c.requires.known c.if-a-ne0.false;
    }

pub returns-then-minimal : goal.returns-then-minimal
returns-then-minimal c =
    let T = c.args.plan.now in
    lists (tree_at (nodes T) (satisfied T) Blocking c.args.a.c c.args.a.r) (minimal_blocking (nodes T) (satisfied T) c.args.a.c) c.args.a.c
    (at_blocking_lem T c.args.a c.requires.known (sym c.shut.ensures ∙ c.if-shut.false) c.if-a-ne0.false) (sym c.minimal.ensures ∙ c.if-minimal.true)

pub returns : goal.returns
returns c =
    let T = c.args.plan.now in
    lists_not (tree_at (nodes T) (satisfied T) Blocking c.args.a.c c.args.a.r) (minimal_blocking (nodes T) (satisfied T) c.args.a.c) c.args.a.c
    (at_blocking_lem T c.args.a c.requires.known (sym c.shut.ensures ∙ c.if-shut.false) c.if-a-ne0.false) (sym c.minimal.ensures ∙ c.if-minimal.false)
