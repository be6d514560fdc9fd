-- The numeral of a number below ten is its digit; of any other, the numeral of a tenth of it and one digit more. Fuel beyond the number
-- itself changes nothing, since a tenth is smaller. How long a numeral is follows by the powers of ten.
use Prim.Native.Nat.{ℕ, zero, suc, ◌+◌, ◌*◌, ◌/◌, ◌%◌, ◌^◌, ◌≤◌, ◌<◌}
use native.Mathlib.Omega.{arith}
use native.Mathlib.Nat.{pow-succ', one-le-pow}
use mathlib.Core.Path.{◌≡◌, refl}
use mathlib.Core.List.{List, [], ◌∷◌, ◌++◌, append_assoc}
use mathlib.Core.Logic.{⊎_elim}
use borrow.Author.Tests.{lt-ltb, le-ltb}
use lib.ListN.{length, get_or, length-append}
use Rattle.decimal.specs.Decimal.{digits, numeral}
use Rattle.decimal.proofs.Order.{lt-or-le}

digits_small : (f n : ℕ) → n < 10 → digits f n ≡ (48 + n) ∷ []
unfolding digits
digits_small zero n h = refl
digits_small (suc f) n h = simp (digits, lt-ltb n 10 h)

digits_tens : (f n : ℕ) → 10 ≤ n → digits (suc f) n ≡ digits f (n / 10) ++ (48 + n % 10) ∷ []
unfolding digits
digits_tens f n h = simp (digits, le-ltb n 10 h)

-- more fuel than the number changes nothing
more_fuel : (f g n : ℕ) → n ≤ f → n ≤ g → digits f n ≡ digits g n
more_fuel zero g n a b = let h : n < 10 = omega arith in rw (digits_small zero n h, digits_small g n h)
more_fuel (suc f) zero n a b = let h : n < 10 = omega arith in rw (digits_small (suc f) n h, digits_small zero n h)
more_fuel (suc f) (suc g) n a b =
    ⊎_elim
    (λ p. rw (digits_small (suc f) n p, digits_small (suc g) n p))
    (λ p. rw (digits_tens f n p, digits_tens g n p, more_fuel f g (n / 10) (omega arith) (omega arith)))
    (lt-or-le n 10)

pub numeral_digit : (n : ℕ) → n < 10 → numeral n ≡ (48 + n) ∷ []
unfolding numeral
numeral_digit n h = digits_small n n h

pub numeral_tens : (n : ℕ) → 10 ≤ n → numeral n ≡ numeral (n / 10) ++ (48 + n % 10) ∷ []
unfolding numeral
numeral_tens zero h = absurd (omega arith)
numeral_tens (suc n) h =
    rw (digits_tens n (suc n) h, more_fuel n (suc n / 10) (suc n / 10) (omega arith) (omega arith))

pub numeral_2 : (n : ℕ) → 10 ≤ n → n < 100 → numeral n ≡ (48 + n / 10) ∷ (48 + n % 10) ∷ []
numeral_2 n g h = rw (numeral_tens n g, numeral_digit (n / 10) (omega arith))

pub numeral_3 : (n : ℕ) → 100 ≤ n → n < 1000 → numeral n ≡ (48 + n / 10 / 10) ∷ (48 + n / 10 % 10) ∷ (48 + n % 10) ∷ []
numeral_3 n g h = rw (numeral_tens n (omega arith), numeral_2 (n / 10) (omega arith) (omega arith))

pub length_digit : (n : ℕ) → n < 10 → length (numeral n) ≡ 1
length_digit n h = rw (numeral_digit n h)

pub length_tens : (n : ℕ) → 10 ≤ n → length (numeral n) ≡ length (numeral (n / 10)) + 1
length_tens n h = rw (numeral_tens n h) (length-append (numeral (n / 10)) ((48 + n % 10) ∷ []))

pub length_2 : (n : ℕ) → 10 ≤ n → n < 100 → length (numeral n) ≡ 2
length_2 n g h = rw (numeral_2 n g h)

-- a number below 10^(k + 1) has at most k + 1 digits
pub length_below : (k n : ℕ) → n < 10 ^ suc k → length (numeral n) ≤ suc k
length_below zero n h = omega (arith, length_digit n h)
length_below (suc k) n h =
    ⊎_elim
    (λ p. omega (arith, length_digit n p))
    (λ p.
    let g : n < 10 * 10 ^ suc k = rw (pow-succ' 10 (suc k)) at h in
    let i : n / 10 < 10 ^ suc k = omega arith in
    omega (arith, length_tens n p, length_below k (n / 10) i))
    (lt-or-le n 10)

-- a number from 10^k on, but below 10^(k + 1), has k + 1 digits
pub length_power : (k n : ℕ) → 10 ^ k ≤ n → n < 10 * 10 ^ k → length (numeral n) ≡ k + 1
length_power zero n g h = omega (arith, length_digit n h)
length_power (suc k) n g h =
    let p : 10 * 10 ^ k ≤ n = rw (pow-succ' 10 k) at g in
    let q : n < 10 * (10 * 10 ^ k) = rw (pow-succ' 10 k) at h in
    let z : 1 ≤ 10 ^ k = one-le-pow k 10 (omega arith) in
    omega (arith, length_tens n (omega arith), length_power k (n / 10) (omega arith) (omega arith))

pub length_some : (n : ℕ) → 1 ≤ length (numeral n)
length_some n = ⊎_elim (λ p. omega (arith, length_digit n p)) (λ p. omega (arith, length_tens n p)) (lt-or-le n 10)

pub length_byte : (n : ℕ) → n ≤ 255 → length (numeral n) ≤ 3
length_byte n h = length_below 2 n (omega arith)

pub length_word : (n : ℕ) → n < 2 ^ 64 → length (numeral n) ≤ 20
length_word n h = length_below 19 n (omega arith)

-- a numeral starts with a digit
first_below : (f n : ℕ) (t : List ℕ) → n ≤ f → 48 ≤ get_or (numeral n ++ t) 0 0
first_below zero n t a = let h : n < 10 = omega arith in rw (numeral_digit n h) (omega arith)
first_below (suc f) n t a =
    ⊎_elim
    (λ p. rw (numeral_digit n p) (omega arith))
    (λ p. rw (numeral_tens n p, append_assoc) (first_below f (n / 10) ((48 + n % 10) ∷ t) (omega arith)))
    (lt-or-le n 10)

pub numeral_first : (n : ℕ) (t : List ℕ) → 48 ≤ get_or (numeral n ++ t) 0 0
numeral_first n t = first_below n n t (omega arith)

-- the definition computes: the greatest number of 64 bits has the twenty digits that `length_word` allows
greatest_word : numeral 18446744073709551615 ≡ 49 ∷ 56 ∷ 52 ∷ 52 ∷ 54 ∷ 55 ∷ 52 ∷ 52 ∷ 48 ∷ 55 ∷ 51 ∷ 55 ∷ 48 ∷ 57 ∷ 53 ∷ 53 ∷ 49 ∷ 54 ∷ 49 ∷ 53 ∷ []
unfolding numeral digits
greatest_word = refl
