-- The root visit: no node chosen, the whole ground open, and the greatest quorum in it found by judging every node.
use Rattle.meanings.specs.Trees.{verdict_tree}
use Rattle.verdict.proofs.Root.{ground_of, root_asks, first_visit}
use Rattle.verdict.proofs.search_from.Goals as goal

pub root-root-requires : goal.root-root-requires
root-root-requires c =
    root_asks c.args.plan.now c.args.d c.table.ensures.checked (rw c.table.ensures.reads at c.all.ensures.reads) c.without-ground.ensures

pub search-requires : goal.search-requires
search-requires c =
    first_visit c.args.plan.now c.args.d c.table.ensures.checked (rw c.table.ensures.reads at c.all.ensures.reads) c.without-ground.ensures
    c.count-half.ensures.0 c.root-root.ensures.0

pub returns : goal.returns
unfolding verdict_tree
returns c =
    let e = ground_of c.args.plan.now c.args.d c.table.ensures.checked (rw c.table.ensures.reads at c.all.ensures.reads) c.without-ground.ensures in
    rw (c.root-root.ensures.1, e) at c.search.ensures
