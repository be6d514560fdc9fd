-- The listing order is total, the list of all sets rises in it, and a list that rises has no repeats and is known by its members.
-- One set is ahead of another at the lowest node that is in exactly one of them, which it lacks.
use mathlib.Core.Path.{◌≡◌, refl, sym, ap, ap₂, ◌∙◌, subst}
use mathlib.Core.Bool.{Bool, true, false, not}
use mathlib.Core.List.{List, [], ◌∷◌, ◌++◌, map}
use mathlib.Core.Logic.{◌⊎◌, inl, inr, ⊎_elim}
use Prim.Native.Nat.{ℕ, zero, suc, ◌*◌, ◌/◌, ◌%◌, ◌^◌, ◌≤◌, ◌<◌}
use native.Mathlib.Nat.{not-suc-le-zero, le_of_suc-le-suc}
use native.Mathlib.Omega.{arith}
use lib.Dec.{eqb}
use Rattle.sets.specs.Sets.{has, nobody, lowest, ◌∪◌, ◌∖◌}
use Rattle.sets.specs.Lists.{cons_if, keep}
use Rattle.sets.specs.Listing.{before, subsets, sets_that}
use Rattle.sets.proofs.Bools.{clash, and_parts, and_both, not-holds}
use Rattle.sets.proofs.Members.{In, none_in, has-nobody, has-zero, has-suc, ext, ∪-left, ∪_right, ∪_cases, ∪-lt, ∖_in, ∖_out, ∖-lt}
use Rattle.sets.proofs.Size.{le-or-lt}
use Rattle.sets.proofs.Lowest.{lowest_in, lowest_first}
use Rattle.sets.proofs.Listing.{Among, among_cases, map_among, keep_out}

-- a comes before b, at the node where
pub record Ahead (a b : ℕ) : Type 0 where
  pub where_at : ℕ
  pub lacks : has a where_at ≡ false
  pub holds : has b where_at ≡ true
  pub alike : (j : ℕ) → j < where_at → has a j ≡ has b j

-- the nodes in exactly one of two sets
abbrev differing : ℕ → ℕ → ℕ
differing a b = (a ∖ b) ∪ (b ∖ a)

apart_differs : (a b i : ℕ) → ¬ (has a i ≡ has b i) → In (differing a b) i
apart_differs a b i f = go (has a i) refl (has b i) refl
  where
    go : (x : Bool) → has a i ≡ x → (y : Bool) → has b i ≡ y → In (differing a b) i
    go true p true q = absurd (f (p ∙ sym q))
    go true p false q = ∪-left (a ∖ b) (b ∖ a) i (∖_in a b i p q)
    go false p true q = ∪_right (a ∖ b) (b ∖ a) i (∖_in b a i q p)
    go false p false q = absurd (f (p ∙ sym q))

alike_not : (a b i : ℕ) → has (differing a b) i ≡ false → has a i ≡ has b i
alike_not a b i e = go (has a i) refl (has b i) refl
  where
    go : (x : Bool) → has a i ≡ x → (y : Bool) → has b i ≡ y → has a i ≡ has b i
    go true p true q = p ∙ sym q
    go true p false q = clash (has (differing a b) i) (∪-left (a ∖ b) (b ∖ a) i (∖_in a b i p q)) e
    go false p true q = clash (has (differing a b) i) (∪_right (a ∖ b) (b ∖ a) i (∖_in b a i q p)) e
    go false p false q = p ∙ sym q

-- the definition says so
pub before_ahead : (n a b : ℕ) → before n a b ≡ true → Ahead a b
unfolding before
before_ahead n a b e =
    let v = lowest n (differing a b) in
    let w = and_parts (not (has a v)) (has b v) e in
    record { where_at = v; lacks = not-holds (has a v) w.0; holds = w.1; alike = λ j l. alike_not a b j (lowest_first n (differing a b) j l) }

module _ (n a b : ℕ) (ha : a < 2 ^ n) (hb : b < 2 ^ n) where
  d_lt : differing a b < 2 ^ n
  d_lt = ∪-lt n (a ∖ b) (b ∖ a) (∖-lt n a b ha) (∖-lt n b a hb)

  pub ahead_before : Ahead a b → before n a b ≡ true
  unfolding before
  ahead_before w = rw at_it (and_both (not (has a w.where_at)) (has b w.where_at) (ap not w.lacks) w.holds)
    where
      v : ℕ
      v = lowest n (differing a b)

      inside : In (differing a b) w.where_at
      inside = ∪_right (a ∖ b) (b ∖ a) w.where_at (∖_in b a w.where_at w.holds w.lacks)

      some_in : ¬ (differing a b ≡ nobody)
      some_in e = none_in (differing a b) w.where_at e inside

      not_above : v ≤ w.where_at
      not_above =
          ⊎_elim (λ h. h) (λ h. clash (has (differing a b) w.where_at) inside (lowest_first n (differing a b) w.where_at h))
          (le-or-lt v w.where_at)

      not_below : w.where_at ≤ v
      not_below =
          ⊎_elim (λ h. h)
          (λ h. ⊎_elim
          (λ p. let q = ∖_out a b v p in clash (has b v) (sym (w.alike v h) ∙ q.0) q.1)
          (λ p. let q = ∖_out b a v p in clash (has a v) (w.alike v h ∙ q.0) q.1)
          (∪_cases (a ∖ b) (b ∖ a) v (lowest_in n (differing a b) d_lt some_in)))
          (le-or-lt w.where_at v)

      at_it : lowest n (differing a b) ≡ w.where_at
      at_it = let p = not_above in let q = not_below in omega arith

  -- of two different sets one is ahead
  pub ahead_total : ¬ (a ≡ b) → Ahead a b ⊎ Ahead b a
  ahead_total ne =
      let x = differing a b in
      let some_in : ¬ (x ≡ nobody) = λ e. ne (ext n a b ha hb (λ i l. alike_not a b i (ap (λ (k : ℕ). has k i) e ∙ has-nobody i))) in
      let v = lowest n x in
      let same : (j : ℕ) → j < v → has a j ≡ has b j = λ j l. alike_not a b j (lowest_first n x j l) in
      ⊎_elim
      (λ p. let q = ∖_out a b v p in inr (record { where_at = v; lacks = q.1; holds = q.0; alike = λ j l. sym (same j l) }))
      (λ p. let q = ∖_out b a v p in inl (record { where_at = v; lacks = q.1; holds = q.0; alike = same }))
      (∪_cases (a ∖ b) (b ∖ a) v (lowest_in n x d_lt some_in))

pub ahead_irrefl : (a : ℕ) → Ahead a a → ⊥
ahead_irrefl a w = clash (has a w.where_at) w.holds w.lacks

pub ahead_trans : (a b c : ℕ) → Ahead a b → Ahead b c → Ahead a c
ahead_trans a b c v w =
    ⊎_elim
    (λ (l : v.where_at < w.where_at).
    record {
      where_at = v.where_at;
      lacks = v.lacks;
      holds = sym (w.alike v.where_at l) ∙ v.holds;
      alike = λ j h. v.alike j h ∙ w.alike j (omega arith);
    })
    (λ (l : w.where_at ≤ v.where_at).
    let less : w.where_at < v.where_at = strict l in
    record {
      where_at = w.where_at;
      lacks = v.alike w.where_at less ∙ w.lacks;
      holds = w.holds;
      alike = λ j h. v.alike j (omega arith) ∙ w.alike j h;
    })
    (cases v.where_at w.where_at)
  where
    cases : (x y : ℕ) → (x < y) ⊎ (y ≤ x)
    cases x y = ⊎_elim (λ h. inr h) (λ h. inl h) (le-or-lt y x)

    strict : w.where_at ≤ v.where_at → w.where_at < v.where_at
    strict l =
        ⊎_elim (λ (h : v.where_at ≤ w.where_at).
        let e : w.where_at ≡ v.where_at = omega arith in
        clash (has b v.where_at) v.holds (sym (ap (has b) e) ∙ w.lacks))
        (λ h. h)
        (le-or-lt v.where_at w.where_at)

-- ---- lists that rise
abbrev pub AheadOfAll : ℕ → List ℕ → Type 0
AheadOfAll a l = (b : ℕ) → Among b l → Ahead a b

abbrev pub Rising : List ℕ → Type 0
Rising [] = Unit {0}
Rising (a ∷ l) = AheadOfAll a l × Rising l

pub rising_append : (l m : List ℕ) → Rising l → Rising m → ((a b : ℕ) → Among a l → Among b m → Ahead a b) → Rising (l ++ m)
rising_append [] m p q f = q
rising_append (a ∷ l) m p q f = (
  (λ b w. ⊎_elim (λ i. p.0 b i) (λ i. f a b (inl refl) i) (among_cases b l m w)),
  rising_append l m p.1 q (λ x y i j. f x y (inr i) j),
)

pub rising_keep : (p : ℕ → Bool) (l : List ℕ) → Rising l → Rising (keep p l)
unfolding keep
rising_keep p [] r = tt
rising_keep p (a ∷ l) r = go (p a) (rising_keep p l r.1)
  where
    go : (b : Bool) → Rising (keep p l) → Rising (cons_if b a (keep p l))
    go true s = ((λ b w. r.0 b (keep_out p b l w).0), s)
    go false s = s

rising_map : (f : ℕ → ℕ) → ((a b : ℕ) → Ahead a b → Ahead (f a) (f b)) → (l : List ℕ) → Rising l → Rising (map f l)
rising_map f g [] r = tt
rising_map f g (a ∷ l) r = (
  (λ b w. let z = map_among f b l w in subst (λ (x : ℕ). Ahead (f a) x) (sym z.2) (g a z.0 (r.0 z.0 z.1))),
  rising_map f g l r.1,
)

-- a rising list is known by its members
pub rising_same : (l m : List ℕ) → Rising l → Rising m → ((a : ℕ) → Among a l → Among a m) → ((a : ℕ) → Among a m → Among a l) → l ≡ m
rising_same [] [] p q f g = refl
rising_same [] (b ∷ m) p q f g = absurd (g b (inl refl))
rising_same (a ∷ l) [] p q f g = absurd (f a (inl refl))
rising_same (a ∷ l) (b ∷ m) p q f g =
    ap₂ ◌∷◌ heads
    (rising_same l m p.1 q.1
    (λ x i. tail x i (f x (inr i)))
    (λ x i. tail' x i (g x (inr i))))
  where
    heads : a ≡ b
    heads =
        ⊎_elim (λ e. e)
        (λ i. ⊎_elim (λ e. sym e) (λ j. absurd (ahead_irrefl a (ahead_trans a b a (p.0 b j) (q.0 a i)))) (g b (inl refl)))
        (f a (inl refl))

    tail : (x : ℕ) → Among x l → (x ≡ b) ⊎ Among x m → Among x m
    tail x i (inl e) = absurd (ahead_irrefl a (subst (λ (y : ℕ). Ahead a y) (e ∙ sym heads) (p.0 x i)))
    tail x i (inr j) = j

    tail' : (x : ℕ) → Among x m → (x ≡ a) ⊎ Among x l → Among x l
    tail' x i (inl e) = absurd (ahead_irrefl b (subst (λ (y : ℕ). Ahead b y) (e ∙ heads) (q.0 x i)))
    tail' x i (inr j) = j

-- ---- the list of all sets rises
even-half : (a : ℕ) → 2 * a / 2 ≡ a
even-half a = omega arith

odd-half : (a : ℕ) → suc (2 * a) / 2 ≡ a
odd-half a = omega arith

even-zero : (a : ℕ) → has (2 * a) 0 ≡ false
even-zero a = let e : 2 * a % 2 ≡ 0 = omega arith in has-zero (2 * a) ∙ ap (λ (n : ℕ). eqb n 1) e

odd-zero : (a : ℕ) → has (suc (2 * a)) 0 ≡ true
odd-zero a = let e : suc (2 * a) % 2 ≡ 1 = omega arith in has-zero (suc (2 * a)) ∙ ap (λ (n : ℕ). eqb n 1) e

even-suc : (a i : ℕ) → has (2 * a) (suc i) ≡ has a i
even-suc a i = has-suc (2 * a) i ∙ ap (λ (m : ℕ). has m i) (even-half a)

odd-suc : (a i : ℕ) → has (suc (2 * a)) (suc i) ≡ has a i
odd-suc a i = has-suc (suc (2 * a)) i ∙ ap (λ (m : ℕ). has m i) (odd-half a)

-- every node one higher, and node 0 alike
raise : (f : ℕ → ℕ) (x : Bool) → ((a : ℕ) → has (f a) 0 ≡ x) → ((a i : ℕ) → has (f a) (suc i) ≡ has a i) → (a b : ℕ) → Ahead a b → Ahead (f a) (f b)
raise f x z s a b w =
    record { where_at = suc w.where_at; lacks = s a w.where_at ∙ w.lacks; holds = s b w.where_at ∙ w.holds; alike = same }
  where
    same : (j : ℕ) → j < suc w.where_at → has (f a) j ≡ has (f b) j
    same zero l = z a ∙ sym (z b)
    same (suc j) l = s a j ∙ w.alike j (le_of_suc-le-suc l) ∙ sym (s b j)

pub subsets_rise : (n : ℕ) → Rising (subsets n)
unfolding subsets
subsets_rise zero = ((λ b i. absurd i), tt)
subsets_rise (suc n) =
    rising_append (map (λ k. 2 * k) (subsets n)) (map (λ k. suc (2 * k)) (subsets n))
    (rising_map (λ (k : ℕ). 2 * k) (raise (λ (k : ℕ). 2 * k) false even-zero even-suc) (subsets n) (subsets_rise n))
    (rising_map (λ (k : ℕ). suc (2 * k)) (raise (λ (k : ℕ). suc (2 * k)) true odd-zero odd-suc) (subsets n) (subsets_rise n))
    (λ a b i j. low a b (map_among (λ (k : ℕ). 2 * k) a (subsets n) i) (map_among (λ (k : ℕ). suc (2 * k)) b (subsets n) j))
  where
    low : (a b : ℕ) → (x : ℕ) × Among x (subsets n) × (a ≡ 2 * x) → (y : ℕ) × Among y (subsets n) × (b ≡ suc (2 * y)) → Ahead a b
    low a b v w =
        record {
          where_at = 0;
          lacks = ap (λ (m : ℕ). has m 0) v.2 ∙ even-zero v.0;
          holds = ap (λ (m : ℕ). has m 0) w.2 ∙ odd-zero w.0;
          alike = λ j l. absurd (not-suc-le-zero l);
        }

-- those that pass a test rise too
pub sets_that_rise : (n : ℕ) (p : ℕ → Bool) → Rising (sets_that n p)
unfolding sets_that
sets_that_rise n p = rising_keep p (subsets n) (subsets_rise n)
