-- The nodes passed are planned, each at its number: by a plan of its own, or by that of the node before it, where the two are alike.
use mathlib.Core.Path.{refl, sym, ◌∙◌}
use native.Mathlib.Omega.{arith}
use lib.ListN.{length-set}
use Rattle.plans.proofs.Planning.{one_planned, shared, none_shared}
use Rattle.plans.proofs.Plan.new.Goals.{then-not-contains, else-not-contains}
use Rattle.plans.proofs.Plan.new.Goals as goal

pub loop-v-init : goal.loop-v-init
loop-v-init c = (refl, λ v l. absurd (omega arith), none_shared c.args.table.now)

pub loop-v-preserved : goal.loop-v-preserved
loop-v-preserved c =
    let t = c.args.table.now in
    let i = c.loop-v.invariant in
    elim c.if-not-contains.branch [
      | then-not-contains w ↦
          let found = w.plan_node-node.result in
          let planned = rw c.new-heads.ensures at w.plan_node-node.ensures in
          rw w.node-is
          (length-set c.loop-v.nodes c.loop-v.v found ∙ i.0, one_planned t c.loop-v.nodes c.loop-v.v found (omega arith) i.1 planned, shared t c.loop-v.v found planned)
      | else-not-contains w ↦
          let found = c.loop-v.node in
          let planned = i.2 c.loop-v.v (sym c.contains.ensures ∙ w.if-not-contains.false) in
          rw w.node-is
          (length-set c.loop-v.nodes c.loop-v.v found ∙ i.0, one_planned t c.loop-v.nodes c.loop-v.v found (omega arith) i.1 planned, i.2)
    ]

pub invariant_of-result : goal.invariant_of-result
invariant_of-result c = (c.nodes-v-end.ensures.checked, λ v l. c.loop-v.invariant.1 v (omega (arith, c.nodes-v-end.ensures.reads.0)))
