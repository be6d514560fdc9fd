-- The list of all sets of n nodes has each of them, so a test over it is a statement over all sets below 2 ^ n.
use mathlib.Core.Path.{◌≡◌, refl, sym, ap, ◌∙◌, subst}
use mathlib.Core.Bool.{Bool, true, false}
use mathlib.Core.List.{List, [], ◌∷◌, ◌++◌, map}
use mathlib.Core.Logic.{◌⊎◌, inl, inr, ⊎_elim}
use Prim.Native.Nat.{ℕ, zero, suc, ◌*◌, ◌/◌, ◌%◌, ◌^◌, ◌<◌}
use native.Mathlib.Nat.{pow-suc}
use native.Mathlib.Omega.{arith}
use lib.Arith.{lt-one}
use Rattle.sets.specs.Lists.{cons_if, keep, all, some}
use Rattle.sets.specs.Listing.{subsets, all_sets, some_set, sets_that}
use Rattle.sets.proofs.Bools.{clash, and_parts, and_both, or_cases, or_left, or_right}
use Rattle.sets.proofs.Members.{half_lt}

-- ---- x stands in the list l
abbrev pub Among : {A : Type 0} → A → List A → Type 0
Among x [] = ⊥
Among x (y ∷ l) = (x ≡ y) ⊎ Among x l

module _ {A : Type 0} where
  pub among_left : (x : A) (l m : List A) → Among x l → Among x (l ++ m)
  among_left x [] m x'' = elim x'' [ ]
  among_left x (y ∷ l) m (inl e) = inl e
  among_left x (y ∷ l) m (inr p) = inr (among_left x l m p)

  pub among_right : (x : A) (l m : List A) → Among x m → Among x (l ++ m)
  among_right x [] m p = p
  among_right x (y ∷ l) m p = inr (among_right x l m p)

  pub among_cases : (x : A) (l m : List A) → Among x (l ++ m) → Among x l ⊎ Among x m
  among_cases x [] m p = inr p
  among_cases x (y ∷ l) m (inl e) = inl (inl e)
  among_cases x (y ∷ l) m (inr p) = ⊎_elim (λ q. inl (inr q)) (λ q. inr q) (among_cases x l m p)

  pub among_map : {B : Type 0} (f : A → B) (x : A) (l : List A) → Among x l → Among (f x) (map f l)
  among_map {B = B} f x [] x'' = elim x'' [ ]
  among_map f x (y ∷ l) (inl e) = inl (ap f e)
  among_map f x (y ∷ l) (inr p) = inr (among_map f x l p)

  pub map_among : {B : Type 0} (f : A → B) (z : B) (l : List A) → Among z (map f l) → (x : A) × Among x l × (z ≡ f x)
  map_among {B = B} f z [] x' = elim x' [ ]
  map_among f z (y ∷ l) (inl e) = (y, inl refl, e)
  map_among f z (y ∷ l) (inr p) = let w = map_among f z l p in (w.0, inr w.1, w.2)

  -- ---- those that pass a test
  module _ (p : A → Bool) where
    pub keep_in : (x : A) (l : List A) → Among x l → p x ≡ true → Among x (keep p l)
    unfolding keep
    keep_in x [] x3 q = elim x3 [ ]
    keep_in x (y ∷ l) (inl e) q = rw (keep, sym (ap p e) ∙ q) (inl e)
    keep_in x (y ∷ l) (inr m) q = go (p y) (keep_in x l m q)
      where
        go : (b : Bool) → Among x (keep p l) → Among x (cons_if b y (keep p l))
        go true m' = inr m'
        go false m' = m'

    pub keep_out : (x : A) (l : List A) → Among x (keep p l) → Among x l × (p x ≡ true)
    unfolding keep
    keep_out x [] m = elim m [ ]
    keep_out x (y ∷ l) m = go (p y) refl (keep_out x l) m
      where
        go : (b : Bool) → p y ≡ b → (Among x (keep p l) → Among x l × (p x ≡ true)) → Among x (cons_if b y (keep p l))
            → ((x ≡ y) ⊎ Among x l) × (p x ≡ true)
        go true e ih (inl q) = (inl q, ap p q ∙ e)
        go true e ih (inr q) = let r = ih q in (inr r.0, r.1)
        go false e ih q = let r = ih q in (inr r.0, r.1)

    pub all_at : (l : List A) → all p l ≡ true → (x : A) → Among x l → p x ≡ true
    unfolding all
    all_at [] e x x4 = elim x4 [ ]
    all_at (y ∷ l) e x (inl q) = ap p q ∙ (and_parts (p y) (all p l) e).0
    all_at (y ∷ l) e x (inr m) = all_at l (and_parts (p y) (all p l) e).1 x m

    pub at_all : (l : List A) → ((x : A) → Among x l → p x ≡ true) → all p l ≡ true
    unfolding all
    at_all [] f = refl
    at_all (y ∷ l) f = and_both (p y) (all p l) (f y (inl refl)) (at_all l (λ x m. f x (inr m)))

    pub some_at : (l : List A) → some p l ≡ true → (x : A) × Among x l × (p x ≡ true)
    unfolding some
    some_at [] e = clash false e refl
    some_at (y ∷ l) e =
        ⊎_elim (λ q. (y, inl refl, q)) (λ q. let w = some_at l q in (w.0, inr w.1, w.2)) (or_cases (p y) (some p l) e)

    pub at_some : (l : List A) (x : A) → Among x l → p x ≡ true → some p l ≡ true
    unfolding some
    at_some [] x x4 q = elim x4 [ ]
    at_some (y ∷ l) x (inl e) q = or_left (p y) (some p l) (sym (ap p e) ∙ q)
    at_some (y ∷ l) x (inr m) q = or_right (p y) (some p l) (at_some l x m q)

-- ---- all sets of n nodes
pub subsets-all : (n m : ℕ) → m < 2 ^ n → Among m (subsets n)
unfolding subsets
subsets-all zero m h = inl (lt-one h)
subsets-all (suc n) m h = go (m % 2) refl (subsets-all n (m / 2) (half_lt n m h))
  where
    go : (b : ℕ) → m % 2 ≡ b → Among (m / 2) (subsets n) → Among m (map (λ k. 2 * k) (subsets n) ++ map (λ k. suc (2 * k)) (subsets n))
    go zero e p =
        among_left m (map (λ k. 2 * k) (subsets n)) (map (λ k. suc (2 * k)) (subsets n))
        (subst (λ (x : ℕ). Among x (map (λ k. 2 * k) (subsets n))) (omega arith) (among_map (λ (k : ℕ). 2 * k) (m / 2) (subsets n) p))
    go (suc zero) e p =
        among_right m (map (λ k. 2 * k) (subsets n)) (map (λ k. suc (2 * k)) (subsets n))
        (subst (λ (x : ℕ). Among x (map (λ k. suc (2 * k)) (subsets n))) (omega arith)
        (among_map (λ (k : ℕ). suc (2 * k)) (m / 2) (subsets n) p))
    go (suc (suc b)) e p = let z : ⊥ = omega arith in absurd z

pub subsets-lt : (n m : ℕ) → Among m (subsets n) → m < 2 ^ n
unfolding subsets
subsets-lt zero m (inr x'') = elim x'' [ ]
subsets-lt zero m (inl e) = omega arith
subsets-lt (suc n) m p =
    ⊎_elim (λ q. even (subsets-lt n) (map_among (λ (k : ℕ). 2 * k) m (subsets n) q))
    (λ q. odd (subsets-lt n) (map_among (λ (k : ℕ). suc (2 * k)) m (subsets n) q))
    (among_cases m (map (λ k. 2 * k) (subsets n)) (map (λ k. suc (2 * k)) (subsets n)) p)
  where
    even : ((x : ℕ) → Among x (subsets n) → x < 2 ^ n) → (x : ℕ) × Among x (subsets n) × (m ≡ 2 * x) → m < 2 ^ suc n
    even ih w = let l = ih w.0 w.1 in let e = pow-suc 2 n in let q = w.2 in omega arith

    odd : ((x : ℕ) → Among x (subsets n) → x < 2 ^ n) → (x : ℕ) × Among x (subsets n) × (m ≡ suc (2 * x)) → m < 2 ^ suc n
    odd ih w = let l = ih w.0 w.1 in let e = pow-suc 2 n in let q = w.2 in omega arith

-- ---- a test of all sets, or of some, is a statement about sets
module _ (n : ℕ) (p : ℕ → Bool) where
  pub all_sets_at : all_sets n p ≡ true → (m : ℕ) → m < 2 ^ n → p m ≡ true
  unfolding all_sets
  all_sets_at e m h = all_at p (subsets n) e m (subsets-all n m h)

  pub at_all_sets : ((m : ℕ) → m < 2 ^ n → p m ≡ true) → all_sets n p ≡ true
  unfolding all_sets
  at_all_sets f = at_all p (subsets n) (λ m q. f m (subsets-lt n m q))

  pub some_set_at : some_set n p ≡ true → (m : ℕ) × (m < 2 ^ n) × (p m ≡ true)
  unfolding some_set
  some_set_at e = let w = some_at p (subsets n) e in (w.0, subsets-lt n w.0 w.1, w.2)

  pub at_some_set : (m : ℕ) → m < 2 ^ n → p m ≡ true → some_set n p ≡ true
  unfolding some_set
  at_some_set m h q = at_some p (subsets n) m (subsets-all n m h) q

  pub sets_that_in : (m : ℕ) → m < 2 ^ n → p m ≡ true → Among m (sets_that n p)
  unfolding sets_that
  sets_that_in m h q = keep_in p m (subsets n) (subsets-all n m h) q

  pub sets_that_out : (m : ℕ) → Among m (sets_that n p) → (m < 2 ^ n) × (p m ≡ true)
  unfolding sets_that
  sets_that_out m q = let w = keep_out p m (subsets n) q in (subsets-lt n m w.0, w.1)
