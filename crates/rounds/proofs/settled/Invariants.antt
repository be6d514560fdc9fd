-- Each node of c that is passed is satisfied; one that is not ends the walk.
use mathlib.Core.Path.{◌≡◌}
use mathlib.Core.Bool.{true}
use Prim.Native.Nat.{ℕ, ◌<◌}
use Rattle.sets.proofs.Members.{In}
use Rattle.meanings.specs.Table.{satisfied}
use Rattle.rounds.proofs.settled.Given as goal

abbrev pub invariant-loop-v : goal.invariant-loop-v
invariant-loop-v l = (i : ℕ) → i < l.v → In l.c i → satisfied l.heads l.with i ≡ true
