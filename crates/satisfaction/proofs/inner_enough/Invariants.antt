-- What the sets that the walk stands in get from the records to come is what the set that is judged gets from all of them.
use mathlib.Core.Path.{◌≡◌}
use Prim.Native.Nat.{◌+◌, ◌<◌}
use lib.Dec.{leb}
use Rattle.meanings.specs.Table.{level}
use Rattle.satisfaction.specs.Judged.{still}
use Rattle.satisfaction.specs.Wanted.{left}
use Rattle.satisfaction.proofs.inner_enough.Given as goal

abbrev pub invariant-loop-j : goal.invariant-loop-j
invariant-loop-j l =
    (0 < l.w.outer) × (left l.t l.u l.above l.j l.w ≡ leb l.wanted (still l.t l.u (level l.t l.r) (l.r + 1)))
