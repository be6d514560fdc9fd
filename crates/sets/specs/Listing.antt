-- The listing order, and all sets of nodes in it.
use Rattle.std.specs.Prelude.{Bool, not, ◌&&◌, List, [], ◌∷◌, ◌++◌, map, ℕ, zero, suc, ◌*◌}
use Rattle.sets.specs.Sets.{has, nobody, lowest, ◌∪◌, ◌∖◌}
use Rattle.sets.specs.Lists.{keep, all, some}

-- Of two sets, take the lowest node that is in exactly one; the set without it comes first.
unfoldable pub before : ℕ → ℕ → ℕ → Bool
before n a b = let v = lowest n ((a ∖ b) ∪ (b ∖ a)) in not (has a v) && has b v

-- Every set of the nodes 0 to n - 1, in the listing order: those without node 0, then those with it. A set m of the nodes
-- from 0 on becomes, with each node one higher, 2 * m.
unfoldable pub subsets : ℕ → List ℕ
subsets zero = nobody ∷ []
subsets (suc n) = map (λ m. 2 * m) (subsets n) ++ map (λ m. suc (2 * m)) (subsets n)

-- whether a test holds of all sets of the n nodes, or of some
unfoldable pub all_sets : ℕ → (ℕ → Bool) → Bool
all_sets n p = all p (subsets n)

unfoldable pub some_set : ℕ → (ℕ → Bool) → Bool
some_set n p = some p (subsets n)

-- those of all sets that pass a test, in the listing order
unfoldable pub sets_that : ℕ → (ℕ → Bool) → List ℕ
sets_that n p = keep p (subsets n)
