-- What is counted so far and what the run still has from the next record on are together what the run has.
use mathlib.Core.Path.{◌≡◌}
use mathlib.Core.Bool.{true}
use mathlib.Core.List.{List}
use Prim.Native.Nat.{ℕ, ◌+◌, ◌≤◌}
use Rattle.tables.proofs.Runs.{inner_from}
use Rattle.faults.proofs.inner_sets.Given as goal

-- the run from record j on
abbrev pub left : List ℕ → ℕ → ℕ → ℕ
left t above j = inner_from (λ i. true) t above j

abbrev pub invariant-loop-j : goal.invariant-loop-j
invariant-loop-j l = (l.count ≤ l.j) × (l.count + left l.t l.above l.j ≡ left l.t l.above (l.r + 1))
