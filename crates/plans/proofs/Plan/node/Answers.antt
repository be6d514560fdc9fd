-- A node's plan stands at the node's number, and a sound table has 64 nodes at most.
use Prim.Native.Nat.{◌<◌}
use native.Mathlib.Omega.{arith}
use Rattle.meanings.specs.Table.{nodes as nodes_of}
use Rattle.tables.proofs.Sound.{node_lt}
use Rattle.plans.proofs.Plan.node.Goals as goal

pub offset_bounds-nodes-v : goal.offset_bounds-nodes-v
offset_bounds-nodes-v c = let l = node_lt c.self.inside.table.now c.self.invariant.0 c.args.v (rw c.self.view_is c.requires) in omega (arith, l)

pub bounds-nodes-v : goal.bounds-nodes-v
bounds-nodes-v c = let l = node_lt c.self.inside.table.now c.self.invariant.0 c.args.v (rw c.self.view_is c.requires) in omega (arith, l)

pub returns : goal.returns
returns c =
    let l : c.args.v < nodes_of c.self.inside.table.now = rw c.self.view_is c.requires in
    rw (← c.self.view_is) (record { checked = c.self.invariant.0; reads = c.self.invariant.1 c.args.v l })
