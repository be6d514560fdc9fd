-- A node's record stands at the node's number, and a sound table has 64 nodes at most.
use Prim.Native.Nat.{◌<◌}
use Rattle.meanings.specs.Table.{nodes}
use Rattle.tables.proofs.Heads.{head_in}
use Rattle.tables.proofs.Sound.{node_lt}
use Rattle.tables.proofs.Headed.head.Goals as goal

pub bounds-at-v : goal.bounds-at-v
bounds-at-v c = node_lt c.self.inside.table.now c.self.invariant.0 c.args.v (rw c.self.view_is c.requires)

pub returns : goal.returns
returns c =
    let t = c.self.inside.table.now in
    let found = c.self.invariant.1 in
    let l : c.args.v < nodes t = rw c.self.view_is c.requires in
    rw (← c.self.view_is) (record { checked = c.self.invariant.0; reads = (found c.args.v l, head_in t c.self.inside.at found c.args.v l) })
