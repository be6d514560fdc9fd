-- How many nodes a set has. A part has no more; a part with as many is the whole; and what two sets have together and in common
-- is what they have apart. All by halving.
use mathlib.Core.Path.{◌≡◌, refl, sym, ap, ◌∙◌, subst}
use mathlib.Core.Bool.{false}
use mathlib.Core.Logic.{◌⊎◌, inl, inr, ⊎_elim}
use Prim.Native.Nat.{ℕ, zero, suc, ◌+◌, ◌-◌, ◌*◌, ◌/◌, ◌%◌, ◌^◌, ◌≤◌, ◌<◌}
use native.Mathlib.Nat.{pow-suc, zero-lt-suc, le_refl, lt_of_lt_of_le}
use native.Mathlib.Omega.{arith}
use borrow.Author.Tests.{eqb-true, eq-eqb}
use lib.Arith.{digits_div, lt-one}
use lib.Pow.{pow_pos, pow_mono}
use lib.Bits.{bit_and, bit_or, and_step, or_step}
use lib.Count.{ones, ones_step}
use Rattle.sets.specs.Sets.{has, nobody, everyone, ◌∪◌, ◌∩◌, size}
use Rattle.sets.proofs.Bools.{clash}
use Rattle.sets.proofs.Members.{In, Sub, has-zero, has-suc, and_low, or_low, half_lt, has-nobody, none_in, ∪_cases}

-- of two numbers one is the greater, or they are equal
pub le-or-lt : (a b : ℕ) → (a ≤ b) ⊎ (b < a)
le-or-lt zero b = inl (omega arith)
le-or-lt (suc a) zero = inr (zero-lt-suc a)
le-or-lt (suc a) (suc b) = ⊎_elim (λ h. inl (omega arith)) (λ h. inr (omega arith)) (le-or-lt a b)

pub size-le : (k m : ℕ) → size k m ≤ k
unfolding size
size-le zero m = le_refl 0
size-le (suc k) m = let h = size-le k (m / 2) in omega arith

-- the machine's count
pub ones_size : (k m : ℕ) → m < 2 ^ k → ones m ≡ size k m
unfolding size ones
ones_size zero m h = ap ones (lt-one h)
ones_size (suc k) m h = ones_step m ∙ ap (λ (n : ℕ). m % 2 + n) (ones_size k (m / 2) (half_lt k m h))

-- more places change nothing
pub size_at : (k m : ℕ) → m < 2 ^ k → (j : ℕ) → k ≤ j → size j m ≡ size k m
size_at k m h j l = sym (ones_size j m (lt_of_lt_of_le h (pow_mono l))) ∙ ones_size k m h

and-half : (a b : ℕ) → bit_and a b / 2 ≡ bit_and (a / 2) (b / 2)
and-half a b = ap (λ (n : ℕ). n / 2) (and_step a b) ∙ digits_div (bit_and (a / 2) (b / 2)) (omega arith)

or-half : (a b : ℕ) → bit_or a b / 2 ≡ bit_or (a / 2) (b / 2)
or-half a b = ap (λ (n : ℕ). n / 2) (or_step a b) ∙ digits_div (bit_or (a / 2) (b / 2)) (omega arith)

pub size-∪-∩ : (k a b : ℕ) → size k (a ∪ b) + size k (a ∩ b) ≡ size k a + size k b
unfolding size
size-∪-∩ zero a b = refl
size-∪-∩ (suc k) a b =
    let h = size-∪-∩ k (a / 2) (b / 2) in
    rw (or_low, and_low, or-half, and-half) (omega arith)

-- ---- parts
sub-half : (a b : ℕ) → Sub a b → Sub (a / 2) (b / 2)
sub-half a b f i p = sym (has-suc b i) ∙ f (suc i) (has-suc a i ∙ p)

sub_low : (a b : ℕ) → Sub a b → a % 2 ≤ b % 2
sub_low a b f = go (a % 2) refl (b % 2) refl
  where
    go : (x : ℕ) → a % 2 ≡ x → (y : ℕ) → b % 2 ≡ y → x ≤ y
    go zero e y e' = omega arith
    go (suc x) e y e' =
        let x1 : a % 2 ≡ 1 = omega arith in
        let q : b % 2 ≡ 1 = eqb-true (b % 2) 1 (sym (has-zero b) ∙ f 0 (has-zero a ∙ eq-eqb (a % 2) 1 x1)) in
        omega arith

pub sub-size : (k a b : ℕ) → Sub a b → size k a ≤ size k b
unfolding size
sub-size zero a b f = le_refl 0
sub-size (suc k) a b f =
    let h = sub-size k (a / 2) (b / 2) (sub-half a b f) in
    let l = sub_low a b f in
    omega arith

-- a part with as many nodes is the whole
pub sub_same : (k a b : ℕ) → a < 2 ^ k → b < 2 ^ k → Sub a b → size k b ≤ size k a → a ≡ b
unfolding size
sub_same zero a b p q f e = lt-one p ∙ sym (lt-one q)
sub_same (suc k) a b p q f e =
    let h = sub-size k (a / 2) (b / 2) (sub-half a b f) in
    let l = sub_low a b f in
    let hi : a / 2 ≡ b / 2 = sub_same k (a / 2) (b / 2) (half_lt k a p) (half_lt k b q) (sub-half a b f) (omega arith) in
    omega arith

-- a part that lacks a node has fewer
pub size-lt : (k a b i : ℕ) → a < 2 ^ k → b < 2 ^ k → Sub a b → In b i → has a i ≡ false → size k a < size k b
size-lt k a b i h l f p q =
    ⊎_elim (λ (e : size k b ≤ size k a). clash (has a i) (subst (λ (m : ℕ). In m i) (sym (sub_same k a b h l f e)) p) q)
    (λ e. e)
    (le-or-lt (size k b) (size k a))

pub size-nobody : (k : ℕ) → size k nobody ≡ 0
unfolding size
size-nobody zero = refl
size-nobody (suc k) = let e = size-nobody k in omega arith

-- a set with a node has one at least; a set with none is empty
pub size_pos : (k m i : ℕ) → m < 2 ^ k → In m i → 0 < size k m
size_pos k m i h p =
    let e = size-lt k nobody m i (pow_pos k) h (λ j q. none_in nobody j refl q) p (has-nobody i) in
    let z = size-nobody k in
    omega arith

pub size_none : (k m : ℕ) → m < 2 ^ k → size k m ≤ 0 → m ≡ nobody
size_none k m h l = sym (sub_same k nobody m (pow_pos k) h (λ j q. none_in nobody j refl q) (let z = size-nobody k in omega arith))

-- two parts with no node in common are together no more than the whole
pub apart-size : (k a b c : ℕ) → Sub a c → Sub b c → a ∩ b ≡ nobody → size k a + size k b ≤ size k c
apart-size k a b c f g e =
    let s = size-∪-∩ k a b in
    let z : size k (a ∩ b) ≡ 0 = ap (size k) e ∙ size-nobody k in
    let l = sub-size k (a ∪ b) c (λ i p. ⊎_elim (f i) (g i) (∪_cases a b i p)) in
    omega arith

pub size-everyone : (n : ℕ) → size n (everyone n) ≡ n
unfolding everyone size
size-everyone zero = refl
size-everyone (suc n) =
    let p : 2 ^ suc n ≡ 2 ^ n * 2 = pow-suc 2 n in
    let q : 0 < 2 ^ n = pow_pos n in
    let low : (2 ^ suc n - 1) % 2 ≡ 1 = omega arith in
    let half : (2 ^ suc n - 1) / 2 ≡ 2 ^ n - 1 = omega arith in
    let ih = size-everyone n in
    rw (low, half) (omega arith)
