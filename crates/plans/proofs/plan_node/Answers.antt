-- The three parts of the node are those of a plan.
use mathlib.Core.Path.{ap, ◌∙◌, subst}
use Rattle.meanings.specs.Table.{nodes as nodes_of}
use Rattle.plans.specs.Named.{TouchedTo}
use Rattle.plans.proofs.Planning.{is_plan}
use Rattle.plans.proofs.plan_node.Goals as goal

pub returns : goal.returns
returns c =
    let n = c.nodes.ensures.reads.0 ∙ ap nodes_of c.table.ensures.reads in
    is_plan c.args.heads.now c.args.names.now c.args.v _ c.requires.0 c.head.ensures.reads.0 c.alike-like.ensures c.requires.1
    (subst (TouchedTo c.args.names.now c.alike-like.result c.touched.result) n c.touched.ensures)
