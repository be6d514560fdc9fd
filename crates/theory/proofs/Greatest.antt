-- The greatest quorum within u, the union of all quorums in u: it lies in u, every quorum in u lies in it, and it is a quorum or
-- empty, for each of its nodes is satisfied by a part of it. So it is the largest quorum in u where there is one.
use mathlib.Core.Path.{◌≡◌, refl, sym, ◌∙◌, subst}
use mathlib.Core.Bool.{Bool, true, false, ◌&&◌}
use mathlib.Core.List.{List, [], ◌∷◌, foldr}
use mathlib.Core.Logic.{◌⊎◌, inl, inr, ⊎_elim}
use Prim.Native.Nat.{ℕ, ◌^◌, ◌<◌}
use lib.Pow.{pow_pos}
use Rattle.sets.specs.Sets.{has, nobody, ◌∪◌, within}
use Rattle.sets.specs.Listing.{sets_that}
use Rattle.sets.proofs.Bools.{clash, and_parts, and_both}
use Rattle.sets.proofs.Members.{In, Sub, has-nobody, ∪-left, ∪_right, ∪_cases, ∪-lt, none_in, within-sub, sub_within, sub_antisym}
use Rattle.sets.proofs.Listing.{Among, sets_that_in, sets_that_out, some_set_at, at_some_set}
use Rattle.meanings.specs.Quorums.{quorum, greatest, holds_quorum}
use Rattle.theory.proofs.Quorum.{Monotone, ∪_grows, Quorum, quorum_is, is_quorum, a_node}

-- ---- the union of a list of sets
abbrev unions : List ℕ → ℕ
unions l = foldr (λ q all. q ∪ all) nobody l

unions_in : (i q : ℕ) (l : List ℕ) → Among q l → In q i → In (unions l) i
unions_in i q [] x'' p = elim x'' [ ]
unions_in i q (x ∷ l) (inl e) p = ∪-left x (unions l) i (subst (λ (y : ℕ). In y i) e p)
unions_in i q (x ∷ l) (inr m) p = ∪_right x (unions l) i (unions_in i q l m p)

unions_out : (i : ℕ) (l : List ℕ) → In (unions l) i → (q : ℕ) × Among q l × In q i
unions_out i [] p = clash (has nobody i) p (has-nobody i)
unions_out i (x ∷ l) p =
    ⊎_elim (λ y. (x, inl refl, y)) (λ y. let w = unions_out i l y in (w.0, inr w.1, w.2)) (∪_cases x (unions l) i p)

unions_lt : (n : ℕ) (l : List ℕ) → ((q : ℕ) → Among q l → q < 2 ^ n) → unions l < 2 ^ n
unions_lt n [] f = pow_pos n
unions_lt n (x ∷ l) f = ∪-lt n x (unions l) (f x (inl refl)) (unions_lt n l (λ q m. f q (inr m)))

module _ (n : ℕ) (s : ℕ → ℕ → Bool) where
  pub greatest-lt : (d u : ℕ) → greatest n s d u < 2 ^ n
  unfolding greatest
  greatest-lt d u = unions_lt n (sets_that n (λ q. quorum n s d q && within q u)) (λ q m. (sets_that_out n (λ q. quorum n s d q && within q u) q m).0)

  -- each of its nodes stands in a quorum in u
  pub greatest-from : (d u i : ℕ) → In (greatest n s d u) i → (q : ℕ) × Quorum n s d q × Sub q u × In q i
  unfolding greatest
  greatest-from d u i p =
      let w = unions_out i (sets_that n (λ q. quorum n s d q && within q u)) p in
      let q = w.0 in
      let e = and_parts (quorum n s d q) (within q u) (sets_that_out n (λ q. quorum n s d q && within q u) q w.1).1 in
      (q, quorum_is n s d q e.0, within-sub q u e.1, w.2)

  pub greatest-sub : (d u : ℕ) → Sub (greatest n s d u) u
  greatest-sub d u i p = let w = greatest-from d u i p in w.2 i w.3

  pub greatest-apart : (d u i : ℕ) → In (greatest n s d u) i → has d i ≡ false
  greatest-apart d u i p = let w = greatest-from d u i p in w.1.apart i w.3

  -- every quorum in u lies in it
  pub greatest-has : (d u q : ℕ) → Quorum n s d q → Sub q u → Sub q (greatest n s d u)
  unfolding greatest
  greatest-has d u q a f i p =
      unions_in i q (sets_that n (λ q. quorum n s d q && within q u))
      (sets_that_in n (λ q. quorum n s d q && within q u) q a.below
      (and_both (quorum n s d q) (within q u) (is_quorum n s d q a) (sub_within n q u a.below f)))
      p

  -- it grows with u
  pub greatest_grows : (d u w : ℕ) → Sub u w → Sub (greatest n s d u) (greatest n s d w)
  greatest_grows d u w f i p =
      let q = greatest-from d u i p in
      greatest-has d w q.0 q.1 (λ j x. f j (q.2 j x)) i q.3

  -- u holds a quorum exactly when the greatest is not empty
  pub holds-greatest : (d u : ℕ) → holds_quorum n s d u ≡ true → ¬ (greatest n s d u ≡ nobody)
  unfolding holds_quorum
  holds-greatest d u e z =
      let w = some_set_at n (λ q. quorum n s d q && within q u) e in
      let q = w.0 in
      let a = and_parts (quorum n s d q) (within q u) w.2 in
      let k = quorum_is n s d q a.0 in
      let v = a_node n s q k.below k.some_node in
      none_in (greatest n s d u) v.0 z (greatest-has d u q k (within-sub q u a.1) v.0 v.1)

  pub greatest-holds : (d u : ℕ) → ¬ (greatest n s d u ≡ nobody) → holds_quorum n s d u ≡ true
  unfolding holds_quorum
  greatest-holds d u z =
      let v = a_node n s (greatest n s d u) (greatest-lt d u) z in
      let w = greatest-from d u v.0 v.1 in
      at_some_set n (λ q. quorum n s d q && within q u) w.0 w.1.below
      (and_both (quorum n s d w.0) (within w.0 u) (is_quorum n s d w.0 w.1) (sub_within n w.0 u w.1.below w.2))

  -- nobody is left where u holds no quorum
  pub greatest-none : (d u : ℕ) → holds_quorum n s d u ≡ false → greatest n s d u ≡ nobody
  greatest-none d u e =
      sub_antisym n (greatest n s d u) nobody (greatest-lt d u) (pow_pos n)
      (λ i p. clash (holds_quorum n s d u) (greatest-holds d u (λ z. none_in (greatest n s d u) i z p)) e)
      (λ i p. none_in nobody i refl p)

  -- whoever holds every quorum in u, and is made of such quorums, is the greatest
  pub greatest_unique : (d u g : ℕ) → g < 2 ^ n → ((q : ℕ) → Quorum n s d q → Sub q u → Sub q g)
      → ((g ≡ nobody) ⊎ (Quorum n s d g × Sub g u)) → g ≡ greatest n s d u
  greatest_unique d u g h f c =
      sub_antisym n g (greatest n s d u) h (greatest-lt d u)
      (λ i p. ⊎_elim (λ z. none_in g i z p) (λ q. greatest-has d u g q.0 q.1 i p) c)
      (λ i p. let w = greatest-from d u i p in f w.0 w.1 w.2 i w.3)

  module _ (mono : Monotone s) where
    -- it is a quorum where it is not empty
    pub greatest-quorum : (d u : ℕ) → ¬ (greatest n s d u ≡ nobody) → Quorum n s d (greatest n s d u)
    greatest-quorum d u z =
        record {
          some_node = z;
          below = greatest-lt d u;
          apart = greatest-apart d u;
          met = λ i p.
              let w = greatest-from d u i p in
              mono (w.0 ∪ d) (greatest n s d u ∪ d) i (∪_grows w.0 (greatest n s d u) d (greatest-has d u w.0 w.1 w.2)) (w.1.met i w.3);
        }

    -- a quorum is the greatest within itself, and only a quorum is, or nobody
    pub quorum-greatest : (d u : ℕ) → Quorum n s d u → greatest n s d u ≡ u
    quorum-greatest d u q = sym (greatest_unique d u u q.below (λ p a f. f) (inr (q, λ i p. p)))

    pub greatest_itself : (d u : ℕ) → ¬ (u ≡ nobody) → greatest n s d u ≡ u → Quorum n s d u
    greatest_itself d u z e = subst (Quorum n s d) e (greatest-quorum d u (λ y. z (sym e ∙ y)))
