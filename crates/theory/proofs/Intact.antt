-- The intact rounds end at exactly the nodes that some DSet around the ill set leaves out. Every such DSet leaves out a part of u, in
-- every round: what it leaves out is a plain quorum, so it lies in q; and where two quorums q1, q2 are apart with all but q counted
-- out, the DSet does not leave out a part of both, so what it leaves out lies in W1 or in W2, and in both where neither is empty.
-- A round that says yes has found a DSet itself, all but q.
use mathlib.Core.Path.{◌≡◌, refl, sym, ap, ◌∙◌, subst}
use mathlib.Core.Bool.{Bool, true, false, not, ◌&&◌, ◌||◌}
use mathlib.Core.Logic.{◌⊎◌, inl, inr, ⊎_elim}
use Prim.Native.Nat.{ℕ, zero, suc, ◌+◌, ◌*◌, ◌^◌, ◌≤◌, ◌<◌}
use native.Mathlib.Nat.{not-suc-le-zero, pow-suc}
use native.Mathlib.Omega.{arith}
use borrow.Author.Tests.{eqb-true, eqb-false, eq-eqb}
use lib.Dec.{eqb}
use lib.Pow.{pow_mono}
use Rattle.sets.specs.Sets.{has, nobody, everyone, ◌∪◌, ◌∩◌, ◌∖◌, empty, within, meets, size, set_of}
use Rattle.sets.proofs.Bools.{either, clash, and_parts, and_both, or_cases, or_left, or_right, not-holds, fails}
use Rattle.sets.proofs.Members.{In, Sub, has_below, ∪_right, ∪_cases, ∪-lt, ∩_in, ∩_out, ∩-lt, ∖_in, ∖_out, ∖-lt, none_in, within-sub, sub_within, sub_antisym, set_of_in, set_of_out, set_of-lt}
use Rattle.sets.proofs.Size.{size-lt, size-le, sub-size}
use Rattle.sets.proofs.Listing.{some_set_at, at_some_set}
use Rattle.meanings.specs.Quorums.{whole_ground, quorum, greatest, intersecting, dset, intact, intact_nodes}
use Rattle.meanings.specs.Trees.{Pair, Walk, hit, missed}
use Rattle.meanings.specs.Intact.{intact_are, divided, ended_later, verdict, next_u, on_round, rounds_from, on_plain, intact_search}
use Rattle.theory.proofs.Quorum.{others as outside, others_lt, others_in, others_out, others_nobody, others_everyone, Monotone, Quorum, quorum_is, is_quorum, a_node, delete_quorum, intersecting_is}
use Rattle.theory.proofs.Greatest.{greatest-lt, greatest-sub, greatest-has, greatest-quorum}
use Rattle.theory.proofs.Verdict.{Sound, Decided, all_meet, two_apart, decided, meets-not, apart_none}

-- the visits of one round of a nodes, and of a round with fewer nodes after it
one_round : (k a u : ℕ) → a ≤ u → suc k ≤ 2 ^ suc a → suc k ≤ 2 ^ suc (suc u)
one_round k a u l h =
    let m : suc a ≤ suc (suc u) = omega arith in
    let w : 2 ^ suc a ≤ 2 ^ suc (suc u) = pow_mono m in
    omega arith

more_rounds : (k j c a u : ℕ) → c < a → a ≤ u → suc k ≤ 2 ^ suc a → suc j ≤ 2 ^ suc (suc c) → suc (k + j) ≤ 2 ^ suc (suc u)
more_rounds k j c a u l m h i =
    let p : 2 ^ suc (suc c) ≤ 2 ^ suc a = let x : suc (suc c) ≤ suc a = omega arith in pow_mono x in
    let q : 2 ^ suc (suc a) ≡ 2 ^ suc a * 2 = pow-suc 2 (suc a) in
    let r : 2 ^ suc (suc a) ≤ 2 ^ suc (suc u) = let x : suc (suc a) ≤ suc (suc u) = omega arith in pow_mono x in
    omega arith

module _ (n : ℕ) (s : ℕ → ℕ → Bool) where
  -- ---- the nodes outside a set
  abbrev others : ℕ → ℕ
  others = outside n

  -- those outside the nodes outside q are those of q
  pub others_others : (q : ℕ) → q < 2 ^ n → others (others q) ≡ q
  others_others q h =
      sub_antisym n (others (others q)) q (others_lt n (others q)) h
      (λ i p. ⊎_elim (λ x. x)
      (λ x. clash (has (others q) i) (others_in n q i (has_below n (others (others q)) i (others_lt n (others q)) p) x) (others_out n (others q) i p).1)
      (either (has q i)))
      (λ i p. others_in n (others q) i (has_below n q i h p) (fails (has (others q) i) (λ x. clash (has q i) p (others_out n q i x).1)))

  pub ground_others : (q : ℕ) → q < 2 ^ n → whole_ground n (others q) ≡ q
  unfolding whole_ground
  ground_others q h = others_others q h

  -- ---- one round, by its verdict; and the question, by the plain verdict
  pub rounds_step : (f u : ℕ) (w : Walk Pair) → verdict n s (others (greatest n s nobody u)) ≡ w
      → rounds_from n s (suc f) u ≡ on_round n s (greatest n s nobody u) w (λ p. rounds_from n s f (next_u n s (greatest n s nobody u) p))
  unfolding rounds_from
  rounds_step f u w e = ap (λ (y : Walk Pair). on_round n s (greatest n s nobody u) y (λ p. rounds_from n s f (next_u n s (greatest n s nobody u) p))) e

  pub search_step : (b : ℕ) (w : Walk Pair) → verdict n s nobody ≡ w → intact_search n s b ≡ on_plain n s w (rounds_from n s (suc n) (others b))
  unfolding intact_search
  search_step b w e = ap (λ (y : Walk Pair). on_plain n s y (rounds_from n s (suc n) (others b))) e

  -- ---- DSets
  pub record DSet (d : ℕ) : Type 0 where
    pub bound : d < 2 ^ n
    pub meet : (p q : ℕ) → Quorum n s d p → Quorum n s d q → meets p q ≡ true
    pub rest : Quorum n s nobody (others d) ⊎ (others d ≡ nobody)

  pub dset_is : (d : ℕ) → d < 2 ^ n → dset n s d ≡ true → DSet d
  unfolding dset
  dset_is d h e =
      let w = and_parts (intersecting n s d) (quorum n s nobody (others d) || eqb d (everyone n)) e in
      record {
        bound = h;
        meet = intersecting_is n s d w.0;
        rest = ⊎_elim
            (λ x. inl (quorum_is n s nobody (others d) x))
            (λ x. inr (others_nobody n d (eqb-true d (everyone n) x)))
            (or_cases (quorum n s nobody (others d)) (eqb d (everyone n)) w.1);
      }

  -- all but q is a DSet, where q is a plain quorum or empty and the quorums with the others counted out intersect
  pub is_dset : (q : ℕ) → q < 2 ^ n → (Quorum n s nobody q ⊎ (q ≡ nobody)) → intersecting n s (others q) ≡ true → dset n s (others q) ≡ true
  unfolding dset
  is_dset q h c e =
      and_both (intersecting n s (others q)) (quorum n s nobody (others (others q)) || eqb (others q) (everyone n)) e
      (⊎_elim
      (λ x. or_left (quorum n s nobody (others (others q))) (eqb (others q) (everyone n))
      (is_quorum n s nobody (others (others q)) (subst (Quorum n s nobody) (sym (others_others q h)) x)))
      (λ x. or_right (quorum n s nobody (others (others q))) (eqb (others q) (everyone n)) (eq-eqb (others q) (everyone n) (others_everyone n q x)))
      c)

  pub intact_is : (b v : ℕ) → b < 2 ^ n → intact n s b v ≡ true → (d : ℕ) × DSet d × Sub b d × (has d v ≡ false)
  unfolding intact
  intact_is b v h e =
      let w = some_set_at n (λ d. dset n s d && within b d && not (has d v)) e in
      let d = w.0 in
      let x = and_parts (dset n s d && within b d) (not (has d v)) w.2 in
      let y = and_parts (dset n s d) (within b d) x.0 in
      (d, dset_is d w.1 y.0, within-sub b d y.1, not-holds (has d v) x.1)

  pub is_intact : (b v d : ℕ) → b < 2 ^ n → d < 2 ^ n → dset n s d ≡ true → Sub b d → has d v ≡ false → intact n s b v ≡ true
  unfolding intact
  is_intact b v d hb hd e f k =
      at_some_set n (λ d. dset n s d && within b d && not (has d v)) d hd
      (and_both (dset n s d && within b d) (not (has d v)) (and_both (dset n s d) (within b d) e (sub_within n b d hb f)) (ap not k))

  module _ (mono : Monotone s) where
    -- ---- what a DSet leaves out, and the quorums with all but q counted out
    module _ (plain : (p q : ℕ) → Quorum n s nobody p → Quorum n s nobody q → meets p q ≡ true) (d : ℕ) (ds : DSet d) (q : ℕ) (hq : q < 2 ^ n) (inq : Sub (others d) q) where
      -- the others of q are in d
      inside : Sub (others q) d
      inside i p =
          ⊎_elim (λ x. x) (λ x. clash (has q i) (inq i (others_in n d i (has_below n (others q) i (others_lt n q) p) x)) (others_out n q i p).1) (either (has d i))

      joined : others q ∪ d ≡ d
      joined =
          sub_antisym n (others q ∪ d) d (∪-lt n (others q) d (others_lt n q) ds.bound) ds.bound
          (λ i p. ⊎_elim (inside i) (λ x. x) (∪_cases (others q) d i p)) (λ i p. ∪_right (others q) d i p)

      -- what is left of such a quorum is a quorum with d counted out
      left_over : (x : ℕ) → Quorum n s (others q) x → ¬ (x ∖ d ≡ nobody) → Quorum n s d (x ∖ d)
      left_over x a z = subst (λ (e : ℕ). Quorum n s e (x ∖ d)) joined (delete_quorum n s mono (others q) d x a z)

      nobody_joined : (e : ℕ) → nobody ∪ e ≡ e
      nobody_joined e = lib.Bits.or_comm 0 e ∙ lib.Bits.or_zero_r e

      left_plain : (x : ℕ) → Quorum n s nobody x → ¬ (x ∖ d ≡ nobody) → Quorum n s d (x ∖ d)
      left_plain x a z = subst (λ (e : ℕ). Quorum n s e (x ∖ d)) (nobody_joined d) (delete_quorum n s mono nobody d x a z)

      -- two sets that are apart do not both have something left
      never_both : (x y : ℕ) → x < 2 ^ n → x ∩ y ≡ nobody → Quorum n s d (x ∖ d) → Quorum n s d (y ∖ d) → ⊥
      never_both x y h e a b =
          clash (meets (x ∖ d) (y ∖ d)) (ds.meet (x ∖ d) (y ∖ d) a b)
          (meets-not (x ∖ d) (y ∖ d) (apart_none n (x ∖ d) (y ∖ d) (∖-lt n x d h)
          (λ i p. fails (has (y ∖ d) i) (λ w. none_in (x ∩ y) i e (∩_in x y i (∖_out x d i p).0 (∖_out y d i w).0)))))

      module _ (here : Quorum n s nobody (others d)) where
        -- q1 has nothing left: what d leaves out lies in W1
        in_first : (q1 : ℕ) → q1 ∖ d ≡ nobody → Sub (others d) (greatest n s nobody (q ∖ q1))
        in_first q1 e =
            greatest-has n s nobody (q ∖ q1) (others d) here
            (λ i p. ∖_in q q1 i (inq i p) (fails (has q1 i) (λ x. none_in (q1 ∖ d) i e (∖_in q1 d i x (others_out n d i p).1))))

        -- and, where W2 is not empty, in W2: W2 meets what d leaves out, so it and q2 cannot both have something left
        in_second : (q1 q2 : ℕ) → Quorum n s (others q) q2 → q1 ∖ d ≡ nobody → ¬ (greatest n s nobody (q ∖ q2) ≡ nobody) → Sub (others d) (greatest n s nobody (q ∖ q2))
        in_second q1 q2 a e z =
            ⊎_elim
            (λ x. in_first q2 (eqb-true (q2 ∖ d) 0 x))
            (λ x. absurd (never_both (greatest n s nobody (q ∖ q2)) q2 (greatest-lt n s nobody (q ∖ q2))
            (apart_none n (greatest n s nobody (q ∖ q2)) q2 (greatest-lt n s nobody (q ∖ q2)) (λ i p. (∖_out q q2 i (greatest-sub n s nobody (q ∖ q2) i p)).1))
            (left_plain (greatest n s nobody (q ∖ q2)) w2 (left-some w2))
            (left_over q2 a (eqb-false (q2 ∖ d) 0 x))))
            (either (empty (q2 ∖ d)))
          where
            w2 : Quorum n s nobody (greatest n s nobody (q ∖ q2))
            w2 = greatest-quorum n s mono nobody (q ∖ q2) z

            left-some : Quorum n s nobody (greatest n s nobody (q ∖ q2)) → ¬ (greatest n s nobody (q ∖ q2) ∖ d ≡ nobody)
            left-some w k =
                clash (meets (greatest n s nobody (q ∖ q2)) (others d)) (plain (greatest n s nobody (q ∖ q2)) (others d) w here)
                (meets-not (greatest n s nobody (q ∖ q2)) (others d) (apart_none n (greatest n s nobody (q ∖ q2)) (others d) w.below
                (λ i p. fails (has (others d) i) (λ x. none_in (greatest n s nobody (q ∖ q2) ∖ d) i k (∖_in (greatest n s nobody (q ∖ q2)) d i p (others_out n d i x).1)))))

      -- so it lies in the next u
      pub in_next : (x : Pair) → Sound n s (others q) x → Sub (others d) (next_u n s q x)
      unfolding next_u
      in_next x w i p = go ds.rest
        where
          w1 : ℕ
          w1 = greatest n s nobody (q ∖ x.first)

          w2 : ℕ
          w2 = greatest n s nobody (q ∖ x.second)

          next : (b c : Bool) → ℕ
          next b c = elim b [ true ↦ w2 | false ↦ elim c [ true ↦ w1 | false ↦ w1 ∩ w2 ] ]

          choose : (¬ (w1 ≡ nobody) → In w1 i) → (¬ (w2 ≡ nobody) → In w2 i) → (In w1 i ⊎ In w2 i) → (b : Bool) → empty w1 ≡ b → (c : Bool) → empty w2 ≡ c → In (next b c) i
          choose f g k true e true e' = ⊎_elim (λ a. none_in w1 i (eqb-true w1 0 e) a) (λ a. a) k
          choose f g k true e false e' = g (eqb-false w2 0 e')
          choose f g k false e true e' = f (eqb-false w1 0 e)
          choose f g k false e false e' = ∩_in w1 w2 i (f (eqb-false w1 0 e)) (g (eqb-false w2 0 e'))

          go : Quorum n s nobody (others d) ⊎ (others d ≡ nobody) → In (next (empty w1) (empty w2)) i
          go (inr z) = none_in (others d) i z p
          go (inl here) =
              ⊎_elim
              (λ a. let e = eqb-true (x.first ∖ d) 0 a in
              choose (λ z. in_first here x.first e i p) (λ z. in_second here x.first x.second w.second_is e z i p) (inl (in_first here x.first e i p)) (empty w1) refl (empty w2) refl)
              (λ a. ⊎_elim
              (λ b. let e = eqb-true (x.second ∖ d) 0 b in
              choose (λ z. in_second here x.second x.first w.first_is e z i p) (λ z. in_first here x.second e i p) (inr (in_first here x.second e i p)) (empty w1) refl (empty w2) refl)
              (λ b. absurd (never_both x.first x.second w.first_is.below w.apart
              (left_over x.first w.first_is (eqb-false (x.first ∖ d) 0 a)) (left_over x.second w.second_is (eqb-false (x.second ∖ d) 0 b))))
              (either (empty (x.second ∖ d))))
              (either (empty (x.first ∖ d)))

    -- ---- the next u is a part of q, and has fewer nodes
    module _ (q : ℕ) (hq : q < 2 ^ n) (x : Pair) (w : Sound n s (others q) x) where
      abbrev w1 : ℕ
      w1 = greatest n s nobody (q ∖ x.first)

      abbrev w2 : ℕ
      w2 = greatest n s nobody (q ∖ x.second)

      part : (y : ℕ) → Sub (greatest n s nobody (q ∖ y)) q
      part y i p = (∖_out q y i (greatest-sub n s nobody (q ∖ y) i p)).0

      -- a quorum with the others of q counted out has a node of q
      smaller_by : (y : ℕ) → Quorum n s (others q) y → size n (greatest n s nobody (q ∖ y)) < size n q
      smaller_by y a =
          let v = a_node n s y a.below a.some_node in
          let inq : In q v.0 = ⊎_elim (λ k. k) (λ k. clash (has (others q) v.0) (others_in n q v.0 (has_below n y v.0 a.below v.1) k) (a.apart v.0 v.1)) (either (has q v.0)) in
          size-lt n (greatest n s nobody (q ∖ y)) q v.0 (greatest-lt n s nobody (q ∖ y)) hq (part y) inq
          (fails (has (greatest n s nobody (q ∖ y)) v.0) (λ k. clash (has y v.0) v.1 (∖_out q y v.0 (greatest-sub n s nobody (q ∖ y) v.0 k)).1))

      -- what holds of W1, of W2 and of what they share holds of the next u
      next_any : (P : ℕ → Type 0) → P w1 → P w2 → P (w1 ∩ w2) → P (next_u n s q x)
      unfolding next_u
      next_any P a b c = go (empty w1) (empty w2)
        where
          go : (y z : Bool) → P (elim y [ true ↦ w2 | false ↦ elim z [ true ↦ w1 | false ↦ w1 ∩ w2 ] ])
          go true z = b
          go false true = a
          go false false = c

      pub next_lt : next_u n s q x < 2 ^ n
      next_lt = next_any (λ y. y < 2 ^ n) (greatest-lt n s nobody (q ∖ x.first)) (greatest-lt n s nobody (q ∖ x.second)) (∩-lt n w1 w2 (greatest-lt n s nobody (q ∖ x.first)))

      pub next_part : Sub (next_u n s q x) q
      next_part = next_any (λ y. Sub y q) (part x.first) (part x.second) (λ i p. part x.first i (∩_out w1 w2 i p).0)

      pub next_fewer : size n (next_u n s q x) < size n q
      next_fewer =
          next_any (λ y. size n y < size n q) (smaller_by x.first w.first_is) (smaller_by x.second w.second_is)
          (let a = smaller_by x.first w.first_is in let b = sub-size n (w1 ∩ w2) w1 (λ i p. (∩_out w1 w2 i p).0) in omega arith)

    -- ---- the rounds, where all plain quorums intersect
    module _ (plain : intersecting n s nobody ≡ true) (b : ℕ) (hb : b < 2 ^ n) where
      plainly : (p q : ℕ) → Quorum n s nobody p → Quorum n s nobody q → meets p q ≡ true
      plainly = intersecting_is n s nobody plain

      -- u has no ill node, and holds whatever a DSet around b leaves out
      pub record Holds (u : ℕ) : Type 0 where
        pub bound : u < 2 ^ n
        pub well : (i : ℕ) → In u i → has b i ≡ false
        pub all_left : (d : ℕ) → DSet d → Sub b d → Sub (others d) u

      -- where the round says yes, q is the set of intact nodes
      answer : (u : ℕ) → Holds u → intersecting n s (others (greatest n s nobody u)) ≡ true → greatest n s nobody u ≡ intact_nodes n s b
      unfolding intact_nodes
      answer u h e =
          let q = greatest n s nobody u in
          let hq = greatest-lt n s nobody u in
          let ds : dset n s (others q) ≡ true = is_dset q hq
          (⊎_elim (λ z. inr (eqb-true q 0 z)) (λ z. inl (greatest-quorum n s mono nobody u (eqb-false q 0 z))) (either (empty q))) e in
          let around : Sub b (others q) = λ i p. others_in n q i (has_below n b i hb p) (fails (has q i) (λ x. clash (has b i) p (h.well i (greatest-sub n s nobody u i x)))) in
          sub_antisym n q (set_of n (intact n s b)) hq (set_of-lt n (intact n s b))
          (λ i p. set_of_in n (intact n s b) i (has_below n q i hq p)
          (is_intact b i (others q) hb (others_lt n q) ds around (fails (has (others q) i) (λ x. clash (has q i) p (others_out n q i x).1))))
          (λ i p.
          let v = set_of_out n (intact n s b) i p in
          let w = intact_is b i hb v.1 in
          let inside : In (others w.0) i = others_in n w.0 i v.0 w.3 in
          ⊎_elim
          (λ k. greatest-has n s nobody u (others w.0) k (h.all_left w.0 w.1 w.2) i inside)
          (λ k. none_in (others w.0) i k inside)
          w.1.rest)

      pub start : Holds (others b)
      start =
          record {
            bound = others_lt n b;
            well = λ i p. (others_out n b i p).1;
            all_left = λ d ds f i p. others_in n b i (has_below n (others d) i (others_lt n d) p) (fails (has b i) (λ x. clash (has d i) (f i x) (others_out n d i p).1));
          }

      -- from u on, the rounds answer the intact nodes; no more visits than 2 ^ (nodes of u + 2)
      pub rounds_answer : (f u : ℕ) → Holds u → size n u < f → (k : ℕ) × (rounds_from n s f u ≡ intact_are (intact_nodes n s b) k) × (suc k ≤ 2 ^ suc (suc (size n u)))
      rounds_answer zero u h l = absurd (not-suc-le-zero l)
      rounds_answer (suc f) u h l =
          go (decided n s (others (greatest n s nobody u)) mono) (λ x w. rounds_answer f (next_u n s (greatest n s nobody u) x) (next_holds x w) (next_size x w))
        where
          q : ℕ
          q = greatest n s nobody u

          hq : q < 2 ^ n
          hq = greatest-lt n s nobody u

          q-size : size n q ≤ size n u
          q-size = sub-size n q u (greatest-sub n s nobody u)

          next_holds : (x : Pair) → Sound n s (others q) x → Holds (next_u n s q x)
          next_holds x w =
              record {
                bound = next_lt q hq x w;
                well = λ i p. h.well i (greatest-sub n s nobody u i (next_part q hq x w i p));
                all_left = λ d ds around.
                    let inq : Sub (others d) q = ⊎_elim (λ k. greatest-has n s nobody u (others d) k (h.all_left d ds around)) (λ k i p. none_in (others d) i k p) ds.rest in
                    in_next plainly d ds q hq inq x w;
              }

          next_size : (x : Pair) → Sound n s (others q) x → size n (next_u n s q x) < f
          next_size x w = let a = next_fewer q hq x w in let c = q-size in omega arith

          ground-size : (k : ℕ) → suc k ≤ 2 ^ suc (size n (whole_ground n (others q))) → suc k ≤ 2 ^ suc (size n q)
          ground-size k l = subst (λ (y : ℕ). suc k ≤ 2 ^ suc (size n y)) (ground_others q hq) l

          go : Decided n s (others q) mono
              → ((x : Pair) → Sound n s (others q) x → (k : ℕ) × (rounds_from n s f (next_u n s q x) ≡ intact_are (intact_nodes n s b) k) × (suc k ≤ 2 ^ suc (suc (size n (next_u n s q x)))))
              → (k : ℕ) × (rounds_from n s (suc f) u ≡ intact_are (intact_nodes n s b) k) × (suc k ≤ 2 ^ suc (suc (size n u)))
          go (all_meet k e i few) ih =
              (k, rounds_step f u (missed k) e ∙ ap (λ y. intact_are y k) (answer u h i), one_round k (size n q) (size n u) q-size (ground-size k few))
          go (two_apart x k e w i few) ih =
              let r = ih x w in (
                k + r.0,
                rounds_step f u (hit x k) e ∙ ap (ended_later k) r.1,
                more_rounds k r.0 (size n (next_u n s q x)) (size n q) (size n u) (next_fewer q hq x w) q-size (ground-size k few) r.2,
              )

    -- An intact question over a system whose plain quorums all intersect: the plain verdict, then the rounds.
    pub intact_answer : (b : ℕ) → b < 2 ^ n → intersecting n s nobody ≡ true → (k : ℕ) × (intact_search n s b ≡ intact_are (intact_nodes n s b) k)
    intact_answer b hb plain = go (decided n s nobody mono)
      where
        rounds : (k : ℕ) × (rounds_from n s (suc n) (others b) ≡ intact_are (intact_nodes n s b) k) × (suc k ≤ 2 ^ suc (suc (size n (others b))))
        rounds = rounds_answer plain b hb (suc n) (others b) (start plain b hb) (let l = size-le n (others b) in omega arith)

        go : Decided n s nobody mono → (k : ℕ) × (intact_search n s b ≡ intact_are (intact_nodes n s b) k)
        go (all_meet k e i few) = (k + rounds.0, search_step b (missed k) e ∙ ap (ended_later k) rounds.1)
        go (two_apart x k e w i few) = clash (intersecting n s nobody) plain i

    -- A divided system is told by the plain verdict's pair, whatever the ill set.
    pub intact_divided : (b : ℕ) → intersecting n s nobody ≡ false → (x : Pair) × (k : ℕ) × Sound n s nobody x × (intact_search n s b ≡ divided x k)
    intact_divided b e = go (decided n s nobody mono)
      where
        go : Decided n s nobody mono → (x : Pair) × (k : ℕ) × Sound n s nobody x × (intact_search n s b ≡ divided x k)
        go (all_meet k w i few) = clash (intersecting n s nobody) i e
        go (two_apart x k w z i few) = (x, k, z, search_step b (hit x k) w)
