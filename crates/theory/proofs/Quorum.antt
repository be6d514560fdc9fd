-- What it is to be a quorum, as facts about nodes; the union of two quorums is a quorum; and a quorum is still one when further
-- nodes are counted out, as long as something of it is left. Only that satisfaction is monotone is used.
use mathlib.Core.Path.{◌≡◌, refl, sym, ap, subst}
use mathlib.Core.Bool.{Bool, true, false, not, ◌&&◌, ◌||◌}
use mathlib.Core.Logic.{⊎_elim}
use Prim.Native.Nat.{ℕ, ◌^◌, ◌<◌}
use borrow.Author.Tests.{eqb-false, ne_eqb}
use lib.Pow.{pow_pos}
use Rattle.sets.specs.Sets.{has, nobody, everyone, ◌∪◌, ◌∖◌, empty, within, meets, each}
use Rattle.sets.specs.Listing.{all_sets}
use Rattle.sets.proofs.Bools.{either, clash, and_parts, and_both, not-holds, or_cases, or_left, or_right, fails, holds}
use Rattle.sets.proofs.Members.{In, Sub, has-everyone, has_below, ∪-left, ∪_right, ∪_cases, ∪-lt, ∖_in, ∖_out, ∖-lt, none_in, sub_antisym, everyone-lt, everyone-all, within-sub, within-lt, sub_within, each_at, at_each}
use Rattle.sets.proofs.Lowest.{lowest_in}
use Rattle.sets.proofs.Listing.{all_sets_at, at_all_sets}
use Rattle.meanings.specs.Quorums.{whole_ground, quorum, intersecting}

-- a set that satisfies a node goes on satisfying it when it grows
abbrev pub Monotone : (ℕ → ℕ → Bool) → Type 0
Monotone s = (a b v : ℕ) → Sub a b → s a v ≡ true → s b v ≡ true

-- what grows, with d added, grows
pub ∪_grows : (a b d : ℕ) → Sub a b → Sub (a ∪ d) (b ∪ d)
∪_grows a b d f i p = ⊎_elim (λ q. ∪-left b d i (f i q)) (λ q. ∪_right b d i q) (∪_cases a d i p)

-- a set of n nodes that none of them is in is empty
pub nobody_in : (n m : ℕ) → m < 2 ^ n → ((i : ℕ) → In m i → ⊥) → m ≡ nobody
nobody_in n m h f = sub_antisym n m nobody h (pow_pos n) (λ i p. absurd (f i p)) (λ i p. none_in nobody i refl p)

module _ (n : ℕ) where
  -- ---- the nodes outside a set
  abbrev pub others : ℕ → ℕ
  others d = everyone n ∖ d

  pub others_lt : (d : ℕ) → others d < 2 ^ n
  others_lt d = ∖-lt n (everyone n) d (everyone-lt n)

  pub others_in : (d i : ℕ) → i < n → has d i ≡ false → In (others d) i
  others_in d i l p = ∖_in (everyone n) d i (has-everyone n i l) p

  pub others_out : (d i : ℕ) → In (others d) i → (i < n) × (has d i ≡ false)
  others_out d i p = let q = ∖_out (everyone n) d i p in (has_below n (everyone n) i (everyone-lt n) q.0, q.1)

  -- there are none exactly where the set is everything
  pub others_nobody : (d : ℕ) → d ≡ everyone n → others d ≡ nobody
  others_nobody d e =
      nobody_in n (others d) (others_lt d) (λ i p.
      let q = others_out d i p in
      clash (has d i) (subst (λ (m : ℕ). In m i) (sym e) (has-everyone n i q.0)) q.1)

  pub nobody_others : (d : ℕ) → d < 2 ^ n → others d ≡ nobody → d ≡ everyone n
  nobody_others d h e =
      sub_antisym n d (everyone n) h (everyone-lt n) (everyone-all n d h)
      (λ i p. holds (has d i) (λ x. none_in (others d) i e (∖_in (everyone n) d i p x)))

  -- and all are outside nobody
  pub others_everyone : (d : ℕ) → d ≡ nobody → others d ≡ everyone n
  others_everyone d z =
      sub_antisym n (others d) (everyone n) (others_lt d) (everyone-lt n) (λ i p. (∖_out (everyone n) d i p).0)
      (λ i p. ∖_in (everyone n) d i p (fails (has d i) (λ x. none_in d i z x)))

  -- the ground is the nodes outside those counted out
  pub ground-lt : (d : ℕ) → whole_ground n d < 2 ^ n
  unfolding whole_ground
  ground-lt d = others_lt d

  pub ground_in : (d i : ℕ) → i < n → has d i ≡ false → In (whole_ground n d) i
  unfolding whole_ground
  ground_in d i l p = others_in d i l p

  pub ground_out : (d i : ℕ) → In (whole_ground n d) i → (i < n) × (has d i ≡ false)
  unfolding whole_ground
  ground_out d i p = others_out d i p

module _ (n : ℕ) (s : ℕ → ℕ → Bool) where
  -- u is a quorum with d counted out
  pub record Quorum (d u : ℕ) : Type 0 where
    pub some_node : ¬ (u ≡ nobody)
    pub below : u < 2 ^ n
    pub apart : (i : ℕ) → In u i → has d i ≡ false
    pub met : (i : ℕ) → In u i → s (u ∪ d) i ≡ true

  pub quorum_is : (d u : ℕ) → quorum n s d u ≡ true → Quorum d u
  unfolding quorum
  quorum_is d u e =
      let a = and_parts (not (empty u) && within u (whole_ground n d)) (each n u (λ v. s (u ∪ d) v)) e in
      let b = and_parts (not (empty u)) (within u (whole_ground n d)) a.0 in
      record {
        some_node = eqb-false u 0 (not-holds (empty u) b.0);
        below = within-lt n u (whole_ground n d) (ground-lt n d) b.1;
        apart = λ i p. (ground_out n d i (within-sub u (whole_ground n d) b.1 i p)).1;
        met = each_at n u (λ v. s (u ∪ d) v) a.1;
      }

  pub is_quorum : (d u : ℕ) → Quorum d u → quorum n s d u ≡ true
  unfolding quorum
  is_quorum d u q =
      and_both (not (empty u) && within u (whole_ground n d)) (each n u (λ v. s (u ∪ d) v))
      (and_both (not (empty u)) (within u (whole_ground n d)) (ap not (ne_eqb u 0 q.some_node))
      (sub_within n u (whole_ground n d) q.below (λ i p. ground_in n d i (has_below n u i q.below p) (q.apart i p))))
      (at_each n u (λ v. s (u ∪ d) v) q.below q.met)

  -- some node of a set that is not empty
  pub a_node : (u : ℕ) → u < 2 ^ n → ¬ (u ≡ nobody) → (i : ℕ) × In u i
  a_node u h e = (Rattle.sets.specs.Sets.lowest n u, lowest_in n u h e)

  module _ (mono : Monotone s) where
    pub union_quorum : (d p q : ℕ) → Quorum d p → Quorum d q → Quorum d (p ∪ q)
    union_quorum d p q a b =
        record {
          some_node = λ e. let w = a_node p a.below a.some_node in none_in (p ∪ q) w.0 e (∪-left p q w.0 w.1);
          below = ∪-lt n p q a.below b.below;
          apart = λ i x. ⊎_elim (a.apart i) (b.apart i) (∪_cases p q i x);
          met = λ i x. ⊎_elim
              (λ y. mono (p ∪ d) ((p ∪ q) ∪ d) i (∪_grows p (p ∪ q) d (∪-left p q)) (a.met i y))
              (λ y. mono (q ∪ d) ((p ∪ q) ∪ d) i (∪_grows q (p ∪ q) d (∪_right p q)) (b.met i y))
              (∪_cases p q i x);
        }

    -- deletion: with e counted out too, what is left of a quorum is a quorum
    pub delete_quorum : (d e q : ℕ) → Quorum d q → ¬ (q ∖ e ≡ nobody) → Quorum (d ∪ e) (q ∖ e)
    delete_quorum d e q a z =
        record {
          some_node = z;
          below = ∖-lt n q e a.below;
          apart = λ i x.
              let y = ∖_out q e i x in
              fails (has (d ∪ e) i) (λ w. ⊎_elim (λ u. clash (has d i) u (a.apart i y.0)) (λ u. clash (has e i) u y.1) (∪_cases d e i w));
          met = λ i x. mono (q ∪ d) ((q ∖ e) ∪ (d ∪ e)) i kept (a.met i (∖_out q e i x).0);
        }
      where
        kept : Sub (q ∪ d) ((q ∖ e) ∪ (d ∪ e))
        kept i x =
            ⊎_elim
            (λ y. ⊎_elim (λ w. ∪_right (q ∖ e) (d ∪ e) i (∪_right d e i w)) (λ w. ∪-left (q ∖ e) (d ∪ e) i (∖_in q e i y w)) (either (has e i)))
            (λ y. ∪_right (q ∖ e) (d ∪ e) i (∪-left d e i y))
            (∪_cases q d i x)

  -- ---- all quorums intersect
  pub intersecting_is : (d : ℕ) → intersecting n s d ≡ true → (p q : ℕ) → Quorum d p → Quorum d q → meets p q ≡ true
  unfolding intersecting
  intersecting_is d e p q a b =
      ⊎_elim
      (λ x. clash (quorum n s d p && quorum n s d q) (and_both (quorum n s d p) (quorum n s d q) (is_quorum d p a) (is_quorum d q b)) (not-holds (quorum n s d p && quorum n s d q) x))
      (λ x. x)
      (or_cases (not (quorum n s d p && quorum n s d q)) (meets p q)
      (all_sets_at n (λ y. not (quorum n s d p && quorum n s d y) || meets p y)
      (all_sets_at n (λ x. all_sets n (λ y. not (quorum n s d x && quorum n s d y) || meets x y)) e p a.below) q b.below))

  pub is_intersecting : (d : ℕ) → ((p q : ℕ) → Quorum d p → Quorum d q → meets p q ≡ true) → intersecting n s d ≡ true
  unfolding intersecting
  is_intersecting d f =
      at_all_sets n (λ x. all_sets n (λ y. not (quorum n s d x && quorum n s d y) || meets x y)) (λ p hp.
      at_all_sets n (λ y. not (quorum n s d p && quorum n s d y) || meets p y) (λ q hq.
      ⊎_elim
      (λ x. let w = and_parts (quorum n s d p) (quorum n s d q) x in
      or_right (not (quorum n s d p && quorum n s d q)) (meets p q) (f p q (quorum_is d p w.0) (quorum_is d q w.1)))
      (λ x. or_left (not (quorum n s d p && quorum n s d q)) (meets p q) (ap not x))
      (either (quorum n s d p && quorum n s d q))))
