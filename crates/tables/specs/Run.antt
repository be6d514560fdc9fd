-- The inner sets of a record as a walk meets them: they stand in the run of deeper records right after it.
use Rattle.std.specs.Prelude.{Bool, true, false, ◌&&◌, List, ℕ, zero, suc, leb, eqb}
use Rattle.meanings.specs.Table.{level}

-- one more, where a test holds
abbrev pub bump : Bool → ℕ → ℕ
bump true n = suc n
bump false n = n

-- Over the n records from r on, up to the first at level k or above it: how many at level k + 1 pass a test.
unfoldable pub inner_run : (ℕ → Bool) → List ℕ → ℕ → ℕ → ℕ → ℕ
inner_run f t k zero r = 0
inner_run f t k (suc n) r =
    elim (leb (level t r) k) [
      | true ↦ 0
      | false ↦ bump (eqb (level t r) (suc k) && f r) (inner_run f t k n (suc r))
    ]
