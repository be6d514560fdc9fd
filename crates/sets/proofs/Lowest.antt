-- The lowest node of a set: it is in the set, and no lower node is. By halving, as the machine's count of zeros is told.
use mathlib.Core.Path.{◌≡◌, refl, ap, ◌∙◌}
use mathlib.Core.Bool.{false}
use Prim.Native.Nat.{ℕ, zero, suc, ◌/◌, ◌%◌, ◌^◌, ◌≤◌, ◌<◌}
use native.Mathlib.Nat.{not-suc-le-zero, le_of_suc-le-suc, zero-lt-suc, lt_of_lt_of_le}
use native.Mathlib.Decide.{le_ind}
use native.Mathlib.Omega.{arith}
use lib.Dec.{eqb}
use lib.Arith.{lt-one}
use lib.Pow.{pow_mono}
use lib.Count.{count_trailing_zeros, under}
use Rattle.sets.specs.Sets.{has, nobody, lowest}
use Rattle.sets.proofs.Members.{In, has-zero, has-suc, half_lt}

-- what goes by halving: at 0 places, and at one more, by the lowest digit
pub lowest_in : (k m : ℕ) → m < 2 ^ k → ¬ (m ≡ nobody) → In m (lowest k m)
unfolding count_trailing_zeros
lowest_in zero m h p = absurd (p (lt-one h))
lowest_in (suc k) m h p = go (m % 2) refl (λ q. lowest_in k (m / 2) (half_lt k m h) q)
  where
    go : (d : ℕ) → m % 2 ≡ d → (¬ (m / 2 ≡ 0) → In (m / 2) (lowest k (m / 2))) → In m (under d (lowest k (m / 2)))
    go zero e ih = has-suc m (lowest k (m / 2)) ∙ ih (λ z. p (omega arith))
    go (suc zero) e ih = has-zero m ∙ ap (λ (n : ℕ). eqb n 1) e
    go (suc (suc d)) e ih = let z : ◌≡◌ {A = ℕ} 0 1 = omega arith in cc

pub lowest_first : (k m j : ℕ) → j < lowest k m → has m j ≡ false
unfolding count_trailing_zeros
lowest_first zero m j h = absurd (not-suc-le-zero h)
lowest_first (suc k) m j h = go (m % 2) refl j h (λ i q. lowest_first k (m / 2) i q)
  where
    go : (d : ℕ) → m % 2 ≡ d → (i : ℕ) → i < under d (lowest k (m / 2))
        → ((i : ℕ) → i < lowest k (m / 2) → has (m / 2) i ≡ false) → has m i ≡ false
    go zero e zero l ih = has-zero m ∙ ap (λ (n : ℕ). eqb n 1) e
    go zero e (suc i) l ih = has-suc m i ∙ ih i (le_of_suc-le-suc l)
    go (suc d) e i l ih = absurd (not-suc-le-zero l)

pub lowest-lt : (k m : ℕ) → m < 2 ^ k → ¬ (m ≡ nobody) → lowest k m < k
unfolding count_trailing_zeros
lowest-lt zero m h p = absurd (p (lt-one h))
lowest-lt (suc k) m h p = go (m % 2) refl (λ q. lowest-lt k (m / 2) (half_lt k m h) q)
  where
    go : (d : ℕ) → m % 2 ≡ d → (¬ (m / 2 ≡ 0) → lowest k (m / 2) < k) → under d (lowest k (m / 2)) < suc k
    go zero e ih = let i = ih (λ z. p (omega arith)) in omega arith
    go (suc d) e ih = zero-lt-suc k

-- more places change nothing
lowest_more : (k m : ℕ) → ¬ (m ≡ nobody) → m < 2 ^ k → lowest (suc k) m ≡ lowest k m
unfolding count_trailing_zeros
lowest_more zero m p h = absurd (p (lt-one h))
lowest_more (suc k) m p h = go (m % 2) refl (λ q. lowest_more k (m / 2) q (half_lt k m h))
  where
    go : (d : ℕ) → m % 2 ≡ d → (¬ (m / 2 ≡ 0) → lowest (suc k) (m / 2) ≡ lowest k (m / 2))
        → under d (lowest (suc k) (m / 2)) ≡ under d (lowest k (m / 2))
    go zero e ih = ap suc (ih (λ z. p (omega arith)))
    go (suc d) e ih = refl

pub lowest_at : (k m : ℕ) → ¬ (m ≡ nobody) → m < 2 ^ k → (j : ℕ) → k ≤ j → lowest j m ≡ lowest k m
lowest_at k m p h =
    le_ind (λ (j : ℕ). lowest j m ≡ lowest k m) refl (λ j l e. lowest_more j m p (lt_of_lt_of_le h (pow_mono l)) ∙ e)
