-- A set without its lowest node, m & (m - 1), has one node fewer: so whether a set has two nodes can be told without counting them.
use mathlib.Core.Path.{◌≡◌, refl, ap, ap₂, ◌∙◌}
use mathlib.Core.Logic.{⊎_elim}
use Prim.Native.Nat.{ℕ, zero, suc, ◌+◌, ◌-◌, ◌/◌, ◌%◌, ◌^◌, ◌≤◌, ◌<◌, min}
use native.Mathlib.Omega.{arith}
use lib.Arith.{digits_div, lt-one}
use lib.Bits.{bit_and, and_step, and_self}
use Rattle.sets.specs.Sets.{nobody, size, ◌∩◌}
use Rattle.sets.proofs.Members.{and_low, half_lt, ∩-lt}
use Rattle.sets.proofs.Size.{le-or-lt, size-nobody, size_none}

half : (a b : ℕ) → bit_and a b / 2 ≡ bit_and (a / 2) (b / 2)
half a b = ap (λ (n : ℕ). n / 2) (and_step a b) ∙ digits_div (bit_and (a / 2) (b / 2)) (omega arith)

-- the sizes by halves: an odd set loses node 0, and an even one loses what its half does
pub lowest_lost : (k m : ℕ) → m < 2 ^ k → 0 < m → size k m ≡ suc (size k (m ∩ (m - 1)))
unfolding size
lowest_lost zero m h p = let z = lt-one h in absurd (omega arith)
lowest_lost (suc k) m h p = go (m % 2) refl (λ q. lowest_lost k (m / 2) (half_lt k m h) q)
  where
    go : (d : ℕ) → m % 2 ≡ d → (0 < m / 2 → size k (m / 2) ≡ suc (size k (m / 2 ∩ (m / 2 - 1))))
        → m % 2 + size k (m / 2) ≡ suc ((m ∩ (m - 1)) % 2 + size k ((m ∩ (m - 1)) / 2))
    go zero e ih =
        let a : (m - 1) % 2 ≡ 1 = omega arith in
        let b : (m - 1) / 2 ≡ m / 2 - 1 = omega arith in
        let low : (m ∩ (m - 1)) % 2 ≡ 0 = and_low m (m - 1) ∙ ap₂ min e a in
        let rest : size k ((m ∩ (m - 1)) / 2) ≡ size k (m / 2 ∩ (m / 2 - 1)) = ap (size k) (half m (m - 1) ∙ ap (bit_and (m / 2)) b) in
        let i = ih (omega arith) in
        omega arith
    go (suc zero) e ih =
        let a : (m - 1) % 2 ≡ 0 = omega arith in
        let b : (m - 1) / 2 ≡ m / 2 = omega arith in
        let low : (m ∩ (m - 1)) % 2 ≡ 0 = and_low m (m - 1) ∙ ap₂ min e a in
        let rest : size k ((m ∩ (m - 1)) / 2) ≡ size k (m / 2) = ap (size k) (half m (m - 1) ∙ ap (bit_and (m / 2)) b ∙ and_self (m / 2)) in
        omega arith
    go (suc (suc d)) e ih = absurd (omega arith)

module _ (m : ℕ) (h : m < 2 ^ 64) (p : 0 < m) where
  pub only_one : m ∩ (m - 1) ≡ nobody → size 64 m ≡ 1
  only_one z = lowest_lost 64 m h p ∙ ap (λ (x : ℕ). suc (size 64 x)) z ∙ ap suc (size-nobody 64)

  pub two_or_more : ¬ (m ∩ (m - 1) ≡ nobody) → 2 ≤ size 64 m
  two_or_more q =
      let e = lowest_lost 64 m h p in
      ⊎_elim (λ l. l)
      (λ (l : size 64 m < 2). absurd (q (size_none 64 (m ∩ (m - 1)) (∩-lt 64 m (m - 1) h) (omega arith))))
      (le-or-lt 2 (size 64 m))
