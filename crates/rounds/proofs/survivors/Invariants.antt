-- The outer loop's invariant is that what is left of those present is the answer, and the rounds so far with those still to come the
-- number; the inner walk gathers, node by node, those who stay. A round that is not the last leaves fewer, so the rounds end.
use Prim.Native.Nat.{◌-◌, ◌≤◌}
use mathlib.Core.Path.{◌≡◌}
use Rattle.sets.specs.Sets.{size, set_of}
use Rattle.meanings.specs.Table.{nodes as nodes_of}
use Rattle.rounds.proofs.Laws.{stays, Standing}
use Rattle.rounds.proofs.survivors.Given as goal

abbrev pub invariant-loop-v : goal.invariant-loop-v
invariant-loop-v l = (l.v ≤ l.nodes) × (l.keep ≡ set_of l.v (stays l.heads l.with l.present))

abbrev pub decreases-loop-v : goal.decreases-loop-v
decreases-loop-v l = l.nodes - l.v

abbrev pub invariant-rounds : goal.invariant-rounds
invariant-rounds l = Standing l.heads l.d l.u l.present l.count

abbrev pub decreases-rounds : goal.decreases-rounds
decreases-rounds l = size (nodes_of l.heads) l.present
