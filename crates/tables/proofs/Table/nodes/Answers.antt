-- The nodes are kept beside the words, and a sound table has 64 of them at most.
use native.Mathlib.Omega.{arith}
use Rattle.tables.proofs.Sound.{sound_table}
use Rattle.tables.proofs.Table.nodes.Goals as goal

pub returns : goal.returns
returns c =
    let few = (sound_table c.self.inside.words.now c.self.invariant.0).nodes-le in
    rw (← c.self.view_is) (record { checked = c.self.invariant.0; reads = (c.self.invariant.1, omega (arith, few, c.self.invariant.1)) })
