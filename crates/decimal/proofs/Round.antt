-- The numeral that is written is read back, and what is read is the numeral. Both go by the first three digits: the text of a number has
-- one, two or three of them, and no other three bytes give the same number.
use Prim.Native.Nat.{ℕ, zero, suc, ◌+◌, ◌-◌, ◌*◌, ◌/◌, ◌%◌, ◌≤◌, ◌<◌}
use native.Mathlib.Omega.{arith}
use native.Mathlib.Nat.{add-sub_cancel_left}
use mathlib.Core.Path.{◌≡◌, refl, ap, ◌∙◌}
use mathlib.Core.Logic.{⊎_elim}
use mathlib.Core.List.{List, [], ◌∷◌, ◌++◌}
use borrow.Author.Tests.{lt-ltb, le-ltb, le-leb, lt-leb, ne_eqb}
use lib.ListN.{length, get_or, take}
use Rattle.std.proofs.Common.{Option, Some, None}
use Rattle.decimal.specs.Decimal.{numeral, digit_of, digit_at, number_of, read_number}
use Rattle.decimal.proofs.Order.{lt-or-le}
use Rattle.decimal.proofs.Numeral.{numeral_digit, numeral_2, numeral_3}

-- what is read at one place is one value in so many bytes
pub read_same : {A : Type 0} (v w : A) (j k : ℕ) → ◌≡◌ {A = Option (A × ℕ)} (Some (v, j)) (Some (w, k)) → (v ≡ w) × (j ≡ k)
read_same {A = A} v w j k e =
    let p : ◌≡◌ {A = A × ℕ} (v, j) (w, k) = cc in
    (ap (λ (x : A × ℕ). x.0) p, ap (λ (x : A × ℕ). x.1) p)

-- the byte of a digit is read as the digit
digit_byte : (d : ℕ) → d < 10 → digit_of (48 + d) ≡ Some d
unfolding digit_of
digit_byte d h =
    let g : 48 ≤ 48 + d = omega arith in
    let k : 48 + d ≤ 57 = omega arith in
    simp (le-leb _ _ g, le-leb _ _ k, add-sub_cancel_left)

-- a byte that is read as a digit is the digit's
byte_digit : (x d : ℕ) → digit_of x ≡ Some d → (d < 10) × (x ≡ 48 + d)
unfolding digit_of
byte_digit x d e =
    ⊎_elim
    (λ p. let z : None ≡ Some d = simp (lt-leb 48 x p) at e in absurd (cc))
    (λ p.
    ⊎_elim
    (λ q. let z : None ≡ Some d = simp (le-leb 48 x p, lt-leb x 57 q) at e in absurd (cc))
    (λ q.
    let z : Some (x - 48) ≡ Some d = simp (le-leb 48 x p, le-leb x 57 q) at e in
    let w : x - 48 ≡ d = cc in
    (omega arith, omega arith))
    (lt-or-le 57 x))
    (lt-or-le x 48)

number_1 : (a : ℕ) (c : Option ℕ) → number_of (Some a) None c ≡ Some (a, 1)
unfolding number_of
number_1 zero c = refl
number_1 (suc a) c = simp (ne_eqb (suc a) 0 (λ e. omega arith))

number_2 : (a b : ℕ) → 0 < a → number_of (Some a) (Some b) None ≡ Some (a * 10 + b, 2)
unfolding number_of
number_2 a b z = simp (ne_eqb a 0 (λ e. omega arith))

number_3 : (a b c : ℕ) → 0 < a → a * 100 + b * 10 + c ≤ 255 → number_of (Some a) (Some b) (Some c) ≡ Some (a * 100 + b * 10 + c, 3)
unfolding number_of
number_3 a b c z m = simp (ne_eqb a 0 (λ e. omega arith), le-ltb 255 _ m)

-- what is written is read back, where no digit follows
pub read_written : (n : ℕ) (t : List ℕ) → n ≤ 255 → digit_at t 0 ≡ None → read_number (numeral n ++ t) ≡ Some (n, length (numeral n))
unfolding read_number digit_at
read_written n t h e =
    ⊎_elim
    (λ p.
    rw (numeral_digit n p)
    (rw (digit_byte n p, e)
    (number_1 n _)))
    (λ p.
    ⊎_elim
    (λ q.
    rw (numeral_2 n p q)
    (rw (digit_byte (n / 10) (omega arith), digit_byte (n % 10) (omega arith), e)
    (number_2 (n / 10) (n % 10) (omega arith) ∙ ap (λ (v : ℕ). Some (v, 2)) (omega arith))))
    (λ q.
    rw (numeral_3 n q (omega arith))
    (rw (digit_byte (n / 10 / 10) (omega arith), digit_byte (n / 10 % 10) (omega arith), digit_byte (n % 10) (omega arith))
    (number_3 (n / 10 / 10) (n / 10 % 10) (n % 10) (omega arith) (omega arith) ∙ ap (λ (v : ℕ). Some (v, 3)) (omega arith))))
    (lt-or-le n 100))
    (lt-or-le n 10)

-- what the first three digits are where a number was read
data Digits (a b c : Option ℕ) (n : ℕ) : ℕ → Type 0 where
  one : a ≡ Some n → Digits a b c n 1
  two : (x y : ℕ) → a ≡ Some x → b ≡ Some y → 0 < x → n ≡ x * 10 + y → Digits a b c n 2
  three : (x y z : ℕ) → a ≡ Some x → b ≡ Some y → c ≡ Some z → 0 < x → n ≡ x * 100 + y * 10 + z → n ≤ 255 → Digits a b c n 3

digits_of : (a b c : Option ℕ) (n k : ℕ) → number_of a b c ≡ Some (n, k) → Digits a b c n k
unfolding number_of
digits_of None b c n k e = absurd (cc)
digits_of (Some zero) b c n k e = let p = read_same 0 n 1 k e in rw (← p.1, ← p.0) (one refl)
digits_of (Some (suc x)) None c n k e =
    let p = read_same (suc x) n 1 k (simp (ne_eqb (suc x) 0 (λ q. omega arith)) at e) in
    rw (← p.1, ← p.0) (one refl)
digits_of (Some (suc x)) (Some y) None n k e =
    let p = read_same (suc x * 10 + y) n 2 k (simp (ne_eqb (suc x) 0 (λ q. omega arith)) at e) in
    rw (← p.1) (two (suc x) y refl refl (omega arith) (omega (arith, p.0)))
digits_of (Some (suc x)) (Some y) (Some z) n k e =
    ⊎_elim
    (λ m. let w : None ≡ Some (n, k) = simp (ne_eqb (suc x) 0 (λ q. omega arith), lt-ltb 255 (suc x * 100 + y * 10 + z) m) at e in absurd (cc))
    (λ (m : suc x * 100 + y * 10 + z ≤ 255).
    let p = read_same (suc x * 100 + y * 10 + z) n 3 k (simp (ne_eqb (suc x) 0 (λ q. omega arith), le-ltb 255 (suc x * 100 + y * 10 + z) m) at e) in
    rw (← p.1) (three (suc x) y z refl refl refl (omega arith) (omega (arith, p.0)) (omega (arith, p.0))))
    (lt-or-le 255 (suc x * 100 + y * 10 + z))

-- the first k bytes of s are the text of v
pub record Reads (s : List ℕ) (v k : ℕ) : Type 0 where
  pub value : v ≤ 255
  pub text : take k s ≡ numeral v
  pub within : k ≤ length s
  pub some : 1 ≤ k
  pub most : k ≤ 3

none : (d : ℕ) {P : Type 0} → digit_of 0 ≡ Some d → P
unfolding digit_of
none d e = absurd (cc)

of_digits : (s : List ℕ) (n k : ℕ) → Digits (digit_of (get_or s 0 0)) (digit_of (get_or s 1 0)) (digit_of (get_or s 2 0)) n k → Reads s n k
of_digits [] n k (one p) = none n p
of_digits [] n k (two x y p q z e) = none x p
of_digits [] n k (three x y w p q r z e m) = none x p
of_digits (a ∷ s) n k (one p) =
    let f = byte_digit a n p in
    record { value = omega (arith, f); text = rw (numeral_digit n f.0, f.1) refl; within = omega arith; some = omega arith; most = omega arith }
of_digits (a ∷ []) n k (two x y p q z e) = none y q
of_digits (a ∷ []) n k (three x y w p q r z e m) = none y q
of_digits (a ∷ b ∷ s) n k (two x y p q z e) =
    let f = byte_digit a x p in
    let g = byte_digit b y q in
    let u : a ≡ 48 + n / 10 = omega (arith, f, g) in
    let v : b ≡ 48 + n % 10 = omega (arith, f, g) in
    record {
      value = omega (arith, f, g);
      text = rw (numeral_2 n (omega (arith, f, g)) (omega (arith, f, g))) (cc);
      within = omega arith;
      some = omega arith;
      most = omega arith;
    }
of_digits (a ∷ b ∷ []) n k (three x y w p q r z e m) = none w r
of_digits (a ∷ b ∷ c ∷ s) n k (three x y w p q r z e m) =
    let f = byte_digit a x p in
    let g = byte_digit b y q in
    let h = byte_digit c w r in
    let i : a ≡ 48 + n / 10 / 10 = omega (arith, f, g, h) in
    let j : b ≡ 48 + n / 10 % 10 = omega (arith, f, g, h) in
    let l : c ≡ 48 + n % 10 = omega (arith, f, g, h) in
    record { value = m; text = rw (numeral_3 n (omega (arith, f, g, h)) (omega arith)) (cc); within = omega arith; some = omega arith; most = omega arith }

-- what is read is what would be written
pub written_read : (s : List ℕ) (v k : ℕ) → read_number s ≡ Some (v, k) → Reads s v k
unfolding read_number digit_at
written_read s v k e = of_digits s v k (digits_of _ _ _ v k e)
