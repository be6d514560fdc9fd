-- Which nodes are in a set that an operation makes. Each law is read off one binary digit; two sets with the same nodes are one
-- number, since a number is its digits.
use mathlib.Core.Path.{◌≡◌, refl, sym, ap, ◌∙◌, subst}
use mathlib.Core.Bool.{Bool, true, false, not, ◌&&◌, ◌||◌}
use mathlib.Core.Logic.{◌⊎◌, inl, inr, ⊎_elim}
use Prim.Native.Nat.{ℕ, zero, suc, ◌+◌, ◌-◌, ◌*◌, ◌/◌, ◌%◌, ◌^◌, ◌<◌, min, max}
use native.Mathlib.Nat.{not-suc-le-zero, le_of_suc-le-suc, div-one, div-div-eq-div-mul, pow-suc, pow-succ', zero-div, lt_of_le_of_lt, one-mul, zero-lt-suc, le_refl}
use native.Mathlib.Omega.{arith}
use native.Mathlib.Numerals.{add-one}
use borrow.Author.Tests.{eqb-true, eq-eqb, ne_eqb, lt-ltb, le-ltb, ltb-true}
use lib.Dec.{eqb, ltb, eqb-zero-suc, eqb-suc-zero, eqb-suc-suc}
use lib.Arith.{digits_mod, lt-one}
use lib.Pow.{pow_pos}
use lib.Bits.{bit_and, bit_or, bit_xor, and_step, or_step, xor_step, and_shr, or_shr, xor_shr, differ, and_le_l, or_lt, xor_lt, or_shifted, or_comm}
use Rattle.sets.specs.Sets.{has, nobody, everyone, only, ◌∪◌, ◌∩◌, ◌∖◌, within, meets, put, set_of, each}
use Rattle.sets.proofs.Bools.{clash, and_parts, and_both, or_cases, or_left, or_right, bool_ext, not-holds}

-- node i is in m; a is part of b
abbrev pub In : ℕ → ℕ → Type 0
In m i = has m i ≡ true

abbrev pub Sub : ℕ → ℕ → Type 0
Sub a b = (i : ℕ) → In a i → In b i

-- ---- one digit

-- what holds of 0 and 1 holds of two digits
bits_ind : (P : ℕ → ℕ → Type 0) → P 0 0 → P 0 1 → P 1 0 → P 1 1 → (p q : ℕ) → p < 2 → q < 2 → P p q
bits_ind P a b c d zero zero h l = a
bits_ind P a b c d zero (suc zero) h l = b
bits_ind P a b c d (suc zero) zero h l = c
bits_ind P a b c d (suc zero) (suc zero) h l = d
bits_ind P a b c d zero (suc (suc q)) h l = absurd (not-suc-le-zero (le_of_suc-le-suc (le_of_suc-le-suc l)))
bits_ind P a b c d (suc zero) (suc (suc q)) h l = absurd (not-suc-le-zero (le_of_suc-le-suc (le_of_suc-le-suc l)))
bits_ind P a b c d (suc (suc p)) q h l = absurd (not-suc-le-zero (le_of_suc-le-suc (le_of_suc-le-suc h)))

min-bit : (p q : ℕ) → p < 2 → q < 2 → eqb (min p q) 1 ≡ (eqb p 1 && eqb q 1)
min-bit = bits_ind (λ p q. eqb (min p q) 1 ≡ (eqb p 1 && eqb q 1)) refl refl refl refl

max-bit : (p q : ℕ) → p < 2 → q < 2 → eqb (max p q) 1 ≡ (eqb p 1 || eqb q 1)
max-bit = bits_ind (λ p q. eqb (max p q) 1 ≡ (eqb p 1 || eqb q 1)) refl refl refl refl

other : Bool → Bool → Bool
other true b = not b
other false b = b

differ_bit : (p q : ℕ) → p < 2 → q < 2 → (eqb (differ p q) 1 ≡ other (eqb p 1) (eqb q 1)) × (differ p q < 2)
unfolding other
differ_bit =
    bits_ind (λ p q. (eqb (differ p q) 1 ≡ other (eqb p 1) (eqb q 1)) × (differ p q < 2)) (refl, omega arith) (refl, omega arith)
    (refl, omega arith) (refl, omega arith)

bit-eq : (p q : ℕ) → p < 2 → q < 2 → eqb p 1 ≡ eqb q 1 → p ≡ q
bit-eq = bits_ind (λ p q. eqb p 1 ≡ eqb q 1 → p ≡ q) (λ e. refl) (λ e. clash false e refl) (λ e. clash true refl e) (λ e. refl)

pub and_low : (x y : ℕ) → bit_and x y % 2 ≡ min (x % 2) (y % 2)
and_low x y = ap (λ (n : ℕ). n % 2) (and_step x y) ∙ digits_mod (bit_and (x / 2) (y / 2)) (omega arith)

pub or_low : (x y : ℕ) → bit_or x y % 2 ≡ max (x % 2) (y % 2)
or_low x y = ap (λ (n : ℕ). n % 2) (or_step x y) ∙ digits_mod (bit_or (x / 2) (y / 2)) (omega arith)

-- ---- which nodes the operations leave
pub has-zero : (m : ℕ) → has m 0 ≡ eqb (m % 2) 1
unfolding has
has-zero m = ap (λ (n : ℕ). eqb (n % 2) 1) (div-one m)

pub has-suc : (m i : ℕ) → has m (suc i) ≡ has (m / 2) i
unfolding has
has-suc m i = ap (λ (n : ℕ). eqb (n % 2) 1) (ap (λ (n : ℕ). m / n) (pow-succ' 2 i) ∙ sym (div-div-eq-div-mul m 2 (2 ^ i)))

pub has-∩ : (a b i : ℕ) → has (a ∩ b) i ≡ (has a i && has b i)
unfolding has
has-∩ a b i =
    ap (λ (n : ℕ). eqb (n % 2) 1) (and_shr a b i) ∙ ap (λ (n : ℕ). eqb n 1) (and_low (a / 2 ^ i) (b / 2 ^ i))
    ∙ min-bit (a / 2 ^ i % 2) (b / 2 ^ i % 2) (omega arith) (omega arith)

pub has-∪ : (a b i : ℕ) → has (a ∪ b) i ≡ (has a i || has b i)
unfolding has
has-∪ a b i =
    ap (λ (n : ℕ). eqb (n % 2) 1) (or_shr a b i) ∙ ap (λ (n : ℕ). eqb n 1) (or_low (a / 2 ^ i) (b / 2 ^ i))
    ∙ max-bit (a / 2 ^ i % 2) (b / 2 ^ i % 2) (omega arith) (omega arith)

has-xor : (a b i : ℕ) → has (bit_xor a b) i ≡ other (has a i) (has b i)
unfolding has
has-xor a b i =
    let x = a / 2 ^ i in
    let y = b / 2 ^ i in
    let db = differ_bit (x % 2) (y % 2) (omega arith) (omega arith) in
    ap (λ (n : ℕ). eqb (n % 2) 1) (xor_shr a b i ∙ xor_step x y)
    ∙ ap (λ (n : ℕ). eqb n 1) (digits_mod (bit_xor (x / 2) (y / 2)) db.1) ∙ db.0

other_and : (a b : Bool) → other a (a && b) ≡ (a && not b)
unfolding other
other_and true b = refl
other_and false b = refl

pub has-∖ : (a b i : ℕ) → has (a ∖ b) i ≡ (has a i && not (has b i))
unfolding ◌∖◌
has-∖ a b i = has-xor a (a ∩ b) i ∙ ap (λ (t : Bool). other (has a i) t) (has-∩ a b i) ∙ other_and (has a i) (has b i)

pub has-nobody : (i : ℕ) → has nobody i ≡ false
unfolding has
has-nobody i = ap (λ (n : ℕ). eqb (n % 2) 1) (zero-div (2 ^ i))

pow-half : (j : ℕ) → 2 ^ suc j / 2 ≡ 2 ^ j
pow-half j = let p : 2 ^ suc j ≡ 2 ^ j * 2 = pow-suc 2 j in omega arith

pow_even : (j : ℕ) → 2 ^ suc j % 2 ≡ 0
pow_even j = let p : 2 ^ suc j ≡ 2 ^ j * 2 = pow-suc 2 j in omega arith

pub has-only : (i j : ℕ) → has (only j) i ≡ eqb i j
has-only zero zero = has-zero 1
has-only zero (suc j) = has-zero (2 ^ suc j) ∙ ap (λ (n : ℕ). eqb n 1) (pow_even j) ∙ sym (eqb-zero-suc j)
has-only (suc i) zero = has-suc 1 i ∙ has-nobody i ∙ sym (eqb-suc-zero i)
has-only (suc i) (suc j) = has-suc (2 ^ suc j) i ∙ ap (λ (n : ℕ). has n i) (pow-half j) ∙ has-only i j ∙ sym (eqb-suc-suc i j)

pub half_lt : (k b : ℕ) → b < 2 ^ suc k → b / 2 < 2 ^ k
half_lt k b h = let p : 2 ^ suc k ≡ 2 ^ k * 2 = pow-suc 2 k in omega arith

-- a set of the nodes below k has no node from k on
pub has_below : (k m i : ℕ) → m < 2 ^ k → In m i → i < k
has_below zero m i h p = clash (has m i) p (ap (λ (x : ℕ). has x i) (lt-one h) ∙ has-nobody i)
has_below (suc k) m zero h p = zero-lt-suc k
has_below (suc k) m (suc i) h p = let l = has_below k (m / 2) i (half_lt k m h) (sym (has-suc m i) ∙ p) in omega arith

-- two sets with the same nodes are one number
pub ext : (k a b : ℕ) → a < 2 ^ k → b < 2 ^ k → ((i : ℕ) → i < k → has a i ≡ has b i) → a ≡ b
ext zero a b h l e = lt-one h ∙ sym (lt-one l)
ext (suc k) a b h l e =
    let hi : a / 2 ≡ b / 2 = ext k (a / 2) (b / 2) (half_lt k a h) (half_lt k b l) (λ i q. sym (has-suc a i) ∙ e (suc i) (omega arith) ∙ has-suc b i) in
    let lo : a % 2 ≡ b % 2 = bit-eq (a % 2) (b % 2) (omega arith) (omega arith) (sym (has-zero a) ∙ e 0 (omega arith) ∙ has-zero b) in
    omega arith

pub sub_antisym : (k a b : ℕ) → a < 2 ^ k → b < 2 ^ k → Sub a b → Sub b a → a ≡ b
sub_antisym k a b p q f g = ext k a b p q (λ i l. bool_ext (has a i) (has b i) (f i) (g i))

-- ---- in and out
pub ∪-left : (a b i : ℕ) → In a i → In (a ∪ b) i
∪-left a b i p = has-∪ a b i ∙ or_left (has a i) (has b i) p

pub ∪_right : (a b i : ℕ) → In b i → In (a ∪ b) i
∪_right a b i p = has-∪ a b i ∙ or_right (has a i) (has b i) p

pub ∪_cases : (a b i : ℕ) → In (a ∪ b) i → In a i ⊎ In b i
∪_cases a b i p = or_cases (has a i) (has b i) (sym (has-∪ a b i) ∙ p)

pub ∩_in : (a b i : ℕ) → In a i → In b i → In (a ∩ b) i
∩_in a b i p q = has-∩ a b i ∙ and_both (has a i) (has b i) p q

pub ∩_out : (a b i : ℕ) → In (a ∩ b) i → In a i × In b i
∩_out a b i p = and_parts (has a i) (has b i) (sym (has-∩ a b i) ∙ p)

pub ∖_in : (a b i : ℕ) → In a i → has b i ≡ false → In (a ∖ b) i
∖_in a b i p q = has-∖ a b i ∙ and_both (has a i) (not (has b i)) p (ap not q)

pub ∖_out : (a b i : ℕ) → In (a ∖ b) i → In a i × (has b i ≡ false)
∖_out a b i p =
    let e = and_parts (has a i) (not (has b i)) (sym (has-∖ a b i) ∙ p) in
    (e.0, not-holds (has b i) e.1)

pub none_in : {A : Type 0} (m i : ℕ) → m ≡ nobody → In m i → A
none_in m i e p = clash (has m i) p (ap (λ (k : ℕ). has k i) e ∙ has-nobody i)

pub only_in : (i : ℕ) → In (only i) i
only_in i = has-only i i ∙ eq-eqb i i refl

pub only_out : (i j : ℕ) → In (only j) i → i ≡ j
only_out i j p = eqb-true i j (sym (has-only i j) ∙ p)

-- ---- bounds
pub ∪-lt : (k a b : ℕ) → a < 2 ^ k → b < 2 ^ k → a ∪ b < 2 ^ k
∪-lt k a b h l = or_lt k a b h l

pub ∩-lt : (k a b : ℕ) → a < 2 ^ k → a ∩ b < 2 ^ k
∩-lt k a b h = lt_of_le_of_lt (and_le_l a b) h

pub ∖-lt : (k a b : ℕ) → a < 2 ^ k → a ∖ b < 2 ^ k
unfolding ◌∖◌
∖-lt k a b h = xor_lt k a (a ∩ b) h (∩-lt k a b h)

pub everyone-lt : (n : ℕ) → everyone n < 2 ^ n
unfolding everyone
everyone-lt n = let p : 0 < 2 ^ n = pow_pos n in omega arith

pub has-everyone : (n i : ℕ) → i < n → In (everyone n) i
unfolding everyone
has-everyone zero i l = absurd (not-suc-le-zero l)
has-everyone (suc n) zero l = has-zero (2 ^ suc n - 1) ∙ eq-eqb ((2 ^ suc n - 1) % 2) 1 odd
  where
    odd : (2 ^ suc n - 1) % 2 ≡ 1
    odd = let p : 2 ^ suc n ≡ 2 ^ n * 2 = pow-suc 2 n in let q : 0 < 2 ^ n = pow_pos n in omega arith
has-everyone (suc n) (suc i) l =
    has-suc (2 ^ suc n - 1) i ∙ ap (λ (m : ℕ). has m i) half ∙ has-everyone n i (le_of_suc-le-suc l)
  where
    half : (2 ^ suc n - 1) / 2 ≡ 2 ^ n - 1
    half = let p : 2 ^ suc n ≡ 2 ^ n * 2 = pow-suc 2 n in let q : 0 < 2 ^ n = pow_pos n in omega arith

pub everyone-all : (n m : ℕ) → m < 2 ^ n → Sub m (everyone n)
everyone-all n m h i p = has-everyone n i (has_below n m i h p)

-- ---- the tests on sets, and what they say
pub within-sub : (a b : ℕ) → within a b ≡ true → Sub a b
unfolding within
within-sub a b e i p = (∩_out a b i (subst (λ (m : ℕ). In m i) (sym (eqb-true (a ∩ b) a e)) p)).1

pub sub-∩ : (k a b : ℕ) → a < 2 ^ k → Sub a b → a ∩ b ≡ a
sub-∩ k a b h f = sub_antisym k (a ∩ b) a (∩-lt k a b h) h (λ i p. (∩_out a b i p).0) (λ i p. ∩_in a b i p (f i p))

pub sub_within : (k a b : ℕ) → a < 2 ^ k → Sub a b → within a b ≡ true
unfolding within
sub_within k a b h f = eq-eqb (a ∩ b) a (sub-∩ k a b h f)

-- a set within those of n nodes is below 2 ^ n
pub within-lt : (n a b : ℕ) → b < 2 ^ n → within a b ≡ true → a < 2 ^ n
unfolding within
within-lt n a b h e = subst (λ (m : ℕ). m < 2 ^ n) (lib.Bits.and_comm b a ∙ eqb-true (a ∩ b) a e) (∩-lt n b a h)

pub meets_at : (a b i : ℕ) → In a i → In b i → meets a b ≡ true
unfolding meets
meets_at a b i p q = ap not (ne_eqb (a ∩ b) 0 (λ e. none_in (a ∩ b) i e (∩_in a b i p q)))

-- ---- the set of the nodes that a test picks
put-lt : (b : Bool) (n m : ℕ) → m < 2 ^ n → put b (only n) m < 2 ^ suc n
put-lt true n m h = let p = pow-suc 2 n in omega arith
put-lt false n m h = let p = pow-suc 2 n in omega arith

pub set_of-lt : (n : ℕ) (f : ℕ → Bool) → set_of n f < 2 ^ n
unfolding set_of
set_of-lt zero f = zero-lt-suc 0
set_of-lt (suc n) f = put-lt (f n) n (set_of n f) (set_of-lt n f)

-- one node above m joins it by a sum
pub put-or : (n m : ℕ) → m < 2 ^ n → m ∪ only n ≡ 2 ^ n + m
put-or n m h =
    or_comm m (2 ^ n) ∙ ap (λ (x : ℕ). bit_or x m) (sym (one-mul (2 ^ n))) ∙ or_shifted 1 n m h ∙ ap (λ (x : ℕ). x + m) (one-mul (2 ^ n))

has-put : (b : Bool) (n m i : ℕ) → m < 2 ^ n → has (put b (only n) m) i ≡ (has m i || (b && eqb i n))
has-put true n m i h =
    ap (λ (x : ℕ). has x i) (sym (put-or n m h)) ∙ has-∪ m (only n) i ∙ ap (λ (t : Bool). has m i || t) (has-only i n)
has-put false n m i h = sym (mathlib.Core.Bool.or-false (has m i))

order_cases : (i n : ℕ) → ((i < n) ⊎ (i ≡ n)) ⊎ (n < i)
order_cases zero zero = inl (inr refl)
order_cases zero (suc n) = inl (inl (zero-lt-suc n))
order_cases (suc i) zero = inr (zero-lt-suc i)
order_cases (suc i) (suc n) =
    ⊎_elim (λ w. inl (⊎_elim (λ h. inl (omega arith)) (λ h. inr (ap suc h)) w)) (λ h. inr (omega arith)) (order_cases i n)

pub has-set_of : (n : ℕ) (f : ℕ → Bool) (i : ℕ) → has (set_of n f) i ≡ (ltb i n && f i)
unfolding set_of
has-set_of zero f i = has-nobody i ∙ ap (λ (t : Bool). t && f i) (sym (le-ltb i 0 (omega arith)))
has-set_of (suc n) f i =
    has-put (f n) n (set_of n f) i (set_of-lt n f) ∙ ap (λ (t : Bool). t || (f n && eqb i n)) (has-set_of n f i) ∙ last (order_cases i n)
  where
    last : ((i < n) ⊎ (i ≡ n)) ⊎ (n < i) → ((ltb i n && f i) || (f n && eqb i n)) ≡ (ltb i (suc n) && f i)
    last (inl (inl h)) =
        rw (lt-ltb i n h, lt-ltb i (suc n) (omega arith), ne_eqb i n (λ e. omega arith), mathlib.Core.Bool.and-false (f n))
        (mathlib.Core.Bool.or-false (f i))
    last (inl (inr e)) =
        rw (e, le-ltb n n (le_refl n), lt-ltb n (suc n) (le_refl (suc n)), eq-eqb n n refl) (mathlib.Core.Bool.and-true (f n))
    last (inr h) =
        rw (le-ltb i n (omega arith), le-ltb i (suc n) h, ne_eqb i n (λ e. omega arith)) (mathlib.Core.Bool.and-false (f n))

pub set_of_in : (n : ℕ) (f : ℕ → Bool) (i : ℕ) → i < n → f i ≡ true → In (set_of n f) i
set_of_in n f i l p = has-set_of n f i ∙ and_both (ltb i n) (f i) (lt-ltb i n l) p

pub set_of_out : (n : ℕ) (f : ℕ → Bool) (i : ℕ) → In (set_of n f) i → (i < n) × (f i ≡ true)
set_of_out n f i p =
    let e = and_parts (ltb i n) (f i) (sym (has-set_of n f i) ∙ p) in
    (ltb-true i n e.0, e.1)

-- the steps of a walk that gathers a set
pub set_hit : (i : ℕ) (f : ℕ → Bool) → f i ≡ true → set_of i f ∪ only i ≡ set_of (i + 1) f
unfolding set_of
set_hit i f e = put-or i (set_of i f) (set_of-lt i f) ∙ rw (add-one, set_of, e)

pub set_miss : (i : ℕ) (f : ℕ → Bool) → f i ≡ false → set_of i f ≡ set_of (i + 1) f
unfolding set_of
set_miss i f e = rw (add-one, set_of, e)

-- a test that holds of each node of u
pub each_at : (n u : ℕ) (f : ℕ → Bool) → each n u f ≡ true → (i : ℕ) → In u i → f i ≡ true
unfolding each
each_at n u f e i p = (set_of_out n f i (within-sub u (set_of n f) e i p)).1

pub at_each : (n u : ℕ) (f : ℕ → Bool) → u < 2 ^ n → ((i : ℕ) → In u i → f i ≡ true) → each n u f ≡ true
unfolding each
at_each n u f h g = sub_within n u (set_of n f) h (λ i p. set_of_in n f i (has_below n u i h p) (g i p))
