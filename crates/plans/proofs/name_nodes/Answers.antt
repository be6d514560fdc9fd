-- The loop keeps the names of the nodes passed, each found from what is written of its quorum set.
use mathlib.Core.Path.{ap, ◌∙◌, subst}
use mathlib.Core.List.{List}
use Prim.Native.Nat.{ℕ, ◌<◌}
use native.Mathlib.Omega.{arith}
use lib.ListN.{length-set}
use Rattle.meanings.specs.Table.{nodes as nodes_of}
use Rattle.plans.specs.Named.{Gathered}
use Rattle.plans.proofs.Written.{bounds}
use Rattle.plans.proofs.Naming.{set_names, one_named}
use Rattle.plans.proofs.name_nodes.Goals as goal

pub loop-v-preserved : goal.loop-v-preserved
loop-v-preserved c =
    let t = c.args.heads.now in
    let v = c.loop-v.v in
    let n = ap nodes_of c.table.ensures.reads in
    let node : v < nodes_of t = omega (arith, c.nodes-v-end.ensures.reads.0) in
    let s = c.set_of.ensures in
    let i = c.loop-v.invariant in (
      length-set c.loop-v.names v c.named.result ∙ i.0,
      one_named t c.loop-v.names v c.named.result (omega arith) i.1
          (set_names t v c.named.result (bounds t v node) (subst (λ (x : List ℕ). Gathered x c.named.result) s.reads c.named.ensures) s.checked),
    )
