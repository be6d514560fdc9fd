-- A set below 2^64 and the rising list of its nodes say the same: the list's powers of two add up to the set, and the nodes of such a sum
-- are the list again. Both go bit by bit, by halving.
use Prim.Native.Nat.{ℕ, zero, suc, ◌+◌, ◌*◌, ◌/◌, ◌%◌, ◌^◌, ◌≤◌, ◌<◌}
use native.Mathlib.Omega.{arith}
use native.Mathlib.Nat.{pow-succ', mul_assoc, mul-add, mul-one, mul-zero, mul_comm, one-mul}
use native.Mathlib.Numerals.{add-one}
use mathlib.Core.Path.{◌≡◌, refl, ap, sym, ◌∙◌}
use mathlib.Core.Logic.{◌⊎◌, inl, inr, ⊎_elim}
use mathlib.Core.List.{List, [], ◌∷◌}
use borrow.Author.Tests.{eq-eqb, ne_eqb}
use lib.ListN.{length}
use lib.Pow.{pow_pos}
use Rattle.decimal.proofs.Order.{lt-or-le, same_or_not}
use Rattle.members.specs.Members.{nodes_from}

-- the set of the nodes of a list
unfoldable pub mask_of : List ℕ → ℕ
mask_of [] = 0
mask_of (i ∷ is) = 2 ^ i + mask_of is

-- rising from `least` on, none above 63
pub data Rising : ℕ → List ℕ → Type 0 where
  none : {least : ℕ} → Rising least []
  next : {least i : ℕ} {is : List ℕ} → least ≤ i → i ≤ 63 → Rising (i + 1) is → Rising least (i ∷ is)

pub lower : {a b : ℕ} {is : List ℕ} → a ≤ b → Rising b is → Rising a is
lower h none = none
lower {a = a} h (next {i = i} l u r) = let g : a ≤ i = omega arith in next g u r

-- the lowest bit is 1 or 0
pub bit : (m : ℕ) → (m % 2 ≡ 1) ⊎ (m % 2 ≡ 0)
bit m = ⊎_elim (λ p. inr (omega arith)) (λ p. inl (omega arith)) (lt-or-le (m % 2) 1)

pub nodes_in : (k i m : ℕ) → m % 2 ≡ 1 → nodes_from (suc k) i m ≡ i ∷ nodes_from k (i + 1) (m / 2)
unfolding nodes_from
nodes_in k i m e = simp (nodes_from, eq-eqb (m % 2) 1 e)

pub nodes_out : (k i m : ℕ) → m % 2 ≡ 0 → nodes_from (suc k) i m ≡ nodes_from k (i + 1) (m / 2)
unfolding nodes_from
nodes_out k i m e = let n : m % 2 ≡ 1 → ⊥ = λ z. omega arith in simp (nodes_from, ne_eqb (m % 2) 1 n)

-- the empty set has no nodes
pub nodes-none : (k i : ℕ) → nodes_from k i 0 ≡ []
unfolding nodes_from
nodes-none zero i = refl
nodes-none (suc k) i = nodes-none k (i + 1)

-- half of what fits k + 1 bits fits k
pub half : (k m : ℕ) → m < 2 ^ suc k → m / 2 < 2 ^ k
half k m h = let g : m < 2 * 2 ^ k = rw (pow-succ' 2 k) at h in omega arith

-- any other set has some
pub nodes-some : (k i m : ℕ) → 0 < m → m < 2 ^ k → 0 < length (nodes_from k i m)
nodes-some zero i m h g = absurd (omega arith)
nodes-some (suc k) i m h g =
    ⊎_elim
    (λ e. rw (nodes_in k i m e) (omega arith))
    (λ e. rw (nodes_out k i m e) (nodes-some k (i + 1) (m / 2) (omega arith) (half k m g)))
    (bit m)

pub nodes_few : (k i m : ℕ) → length (nodes_from k i m) ≤ k
unfolding nodes_from
nodes_few zero i m = omega arith
nodes_few (suc k) i m =
    ⊎_elim
    (λ e. rw (nodes_in k i m e) (omega (arith, nodes_few k (i + 1) (m / 2))))
    (λ e. rw (nodes_out k i m e) (omega (arith, nodes_few k (i + 1) (m / 2))))
    (bit m)

pub nodes_rise : (k i m : ℕ) → i + k ≤ 64 → Rising i (nodes_from k i m)
unfolding nodes_from
nodes_rise zero i m h = none
nodes_rise (suc k) i m h =
    let r : Rising (i + 1) (nodes_from k (i + 1) (m / 2)) = nodes_rise k (i + 1) (m / 2) (omega arith) in
    let a : i ≤ i = omega arith in
    let b : i ≤ 63 = omega arith in
    let c : i ≤ i + 1 = omega arith in
    ⊎_elim (λ e. rw (nodes_in k i m e) (next a b r)) (λ e. rw (nodes_out k i m e) (lower c r)) (bit m)

-- a bit and its weight
twice : (i q : ℕ) → 2 ^ (i + 1) * q ≡ 2 ^ i * (2 * q)
twice i q = rw (add-one i, pow-succ' 2 i, mul_comm 2 (2 ^ i), mul_assoc)

weigh_in : (i q : ℕ) → 2 ^ i * (1 + 2 * q) ≡ 2 ^ i + 2 ^ (i + 1) * q
weigh_in i q = rw (twice i q, mul-add, mul-one)

pub mask_nodes : (k i m : ℕ) → m < 2 ^ k → mask_of (nodes_from k i m) ≡ 2 ^ i * m
unfolding mask_of nodes_from
mask_nodes zero i m h = let e : m ≡ 0 = omega arith in rw (e, mul-zero)
mask_nodes (suc k) i m h =
    let ih : mask_of (nodes_from k (i + 1) (m / 2)) ≡ 2 ^ (i + 1) * (m / 2) = mask_nodes k (i + 1) (m / 2) (half k m h) in
    ⊎_elim
    (λ e.
    let f : 1 + 2 * (m / 2) ≡ m = omega arith in
    let w : 2 ^ i * m ≡ 2 ^ i + 2 ^ (i + 1) * (m / 2) = ap (λ (n : ℕ). 2 ^ i * n) (sym f) ∙ weigh_in i (m / 2) in
    rw (nodes_in k i m e, ih, w))
    (λ e.
    let f : 2 * (m / 2) ≡ m = omega arith in
    let w : 2 ^ i * m ≡ 2 ^ (i + 1) * (m / 2) = ap (λ (n : ℕ). 2 ^ i * n) (sym f) ∙ sym (twice i (m / 2)) in
    rw (nodes_out k i m e, ih, w))
    (bit m)

-- the set of a list of nodes from i on, taken down by i places
record Bits (k i : ℕ) (is : List ℕ) : Type 0 where
  pub q : ℕ
  pub fits : q < 2 ^ k
  pub mask : mask_of is ≡ 2 ^ i * q
  pub nodes : nodes_from k i q ≡ is

no_bits : (k i : ℕ) → Bits k i []
unfolding mask_of
no_bits k i = record { q = 0; fits = pow_pos k; mask = rw mul-zero; nodes = nodes-none k i }

with_bit : (k i : ℕ) (is : List ℕ) → Bits k (i + 1) is → Bits (suc k) i (i ∷ is)
unfolding mask_of
with_bit k i is b =
    let q = b.q in
    let odd : (1 + 2 * q) % 2 ≡ 1 = omega arith in
    let halved : (1 + 2 * q) / 2 ≡ q = omega arith in
    record {
      q = 1 + 2 * q;
      fits = rw (pow-succ' 2 k) (omega (arith, b.fits));
      mask = rw (weigh_in i q, b.mask);
      nodes = rw (nodes_in k i (1 + 2 * q) odd, halved, b.nodes);
    }

without_bit : (k i : ℕ) (is : List ℕ) → Bits k (i + 1) is → Bits (suc k) i is
without_bit k i is b =
    let q = b.q in
    let even : (2 * q) % 2 ≡ 0 = omega arith in
    let halved : (2 * q) / 2 ≡ q = omega arith in
    record {
      q = 2 * q;
      fits = rw (pow-succ' 2 k) (omega (arith, b.fits));
      mask = b.mask ∙ twice i q;
      nodes = rw (nodes_out k i (2 * q) even, halved, b.nodes);
    }

-- what is to be shown of the nodes from i on
abbrev All_bits : ℕ → ℕ → Type 0
All_bits k i = (is : List ℕ) → Rising i is → Bits k i is

no-nodes : (i : ℕ) → i ≡ 64 → All_bits zero i
no-nodes i e is none = no_bits zero i
no-nodes i e is (next l u r) = absurd (omega arith)

by_lowest : (k i : ℕ) → All_bits k (i + 1) → All_bits (suc k) i
by_lowest k i ih is none = no_bits (suc k) i
by_lowest k i ih is (next {i = j} {is = js} l u r) =
    ⊎_elim
    (λ s. rw (← s) (with_bit k i js (ih js (rw (← s) at r))))
    (λ n. let g : i + 1 ≤ j = omega arith in without_bit k i (j ∷ js) (ih (j ∷ js) (next g u r)))
    (same_or_not i j)

bits_of : (k i : ℕ) → i + k ≡ 64 → All_bits k i
bits_of zero i e = no-nodes i (omega arith)
bits_of (suc k) i e = by_lowest k i (bits_of k (i + 1) (omega arith))

-- the nodes of the set of a rising list are the list
pub nodes_mask : (is : List ℕ) → Rising 0 is → (mask_of is < 2 ^ 64) × (nodes_from 64 0 (mask_of is) ≡ is)
nodes_mask is r =
    let b = bits_of 64 0 refl is r in
    let e : mask_of is ≡ b.q = b.mask ∙ one-mul b.q in
    (rw e b.fits, rw e b.nodes)

-- a list with a node is no empty set
pub mask_some : (i : ℕ) (is : List ℕ) → 0 < mask_of (i ∷ is)
unfolding mask_of
mask_some i is = omega (arith, pow_pos i)
