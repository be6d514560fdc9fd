-- Two numbers stand in one of two orders, and are the same or not; a byte that is not 0 stands within its text. The rest of the proofs
-- goes by these cases.
use Prim.Native.Nat.{ℕ, zero, suc, zero-le, suc-le-suc, ◌-◌, ◌≤◌, ◌<◌}
use native.Mathlib.Omega.{arith}
use mathlib.Core.Path.{◌≡◌}
use mathlib.Core.List.{List}
use mathlib.Core.Logic.{◌⊎◌, inl, inr, ⊎_elim}
use lib.ListN.{length, get_or, take, drop, length-drop, get_or-eq_default}
use lib.Seq.{take_all}

pub lt-or-le : (a b : ℕ) → (a < b) ⊎ (b ≤ a)
lt-or-le a zero = inr zero-le
lt-or-le zero (suc b) = inl (suc-le-suc zero-le)
lt-or-le (suc a) (suc b) = ⊎_elim (λ p. inl (suc-le-suc p)) (λ q. inr (suc-le-suc q)) (lt-or-le a b)

pub same_or_not : (a b : ℕ) → (a ≡ b) ⊎ (a ≡ b → ⊥)
same_or_not a b =
    ⊎_elim
    (λ p. ⊎_elim (λ q. inl (omega arith)) (λ q. inr (λ e. omega arith)) (lt-or-le b (suc a)))
    (λ p. inr (λ e. omega arith))
    (lt-or-le a (suc b))

-- a byte that is not 0 stands within the text
pub inside : (s : List ℕ) (i : ℕ) → 0 < get_or s i 0 → i < length s
inside s i h =
    ⊎_elim (λ p. p) (λ p. let e : get_or s i 0 ≡ 0 = get_or-eq_default s 0 p in omega arith) (lt-or-le i (length s))

-- the part from a place to the end is what is left from there
pub rest : (s : List ℕ) (at : ℕ) → take (length s - at) (drop at s) ≡ drop at s
rest s at = take_all (length s - at) (drop at s) (omega (arith, length-drop at s))
