-- The rounds that strike unsatisfied nodes end at the greatest quorum: a quorum in u is never struck, since satisfaction is monotone,
-- and what a last round leaves is empty or a quorum. A round that is not the last strikes a node and leaves one, so k nodes to
-- start with take 1 to k rounds.
use mathlib.Core.Path.{◌≡◌, refl, sym, ap, ◌∙◌, subst}
use mathlib.Core.Bool.{Bool, true, false, ◌&&◌}
use mathlib.Core.Logic.{◌⊎◌, inl, inr, ⊎_elim}
use Prim.Native.Nat.{ℕ, zero, suc, ◌^◌, ◌≤◌, ◌<◌}
use native.Mathlib.Omega.{arith}
use borrow.Author.Tests.{eqb-true, eqb-false, eq-eqb, ne_eqb}
use lib.Dec.{eqb}
use lib.Pow.{pow_pos}
use Rattle.sets.specs.Sets.{has, nobody, ◌∪◌, ◌∖◌, empty, size}
use Rattle.sets.proofs.Bools.{either, and_parts, and_both, or_cases, or_fails, or_left, or_right, fails}
use Rattle.sets.proofs.Members.{In, Sub, has_below, set_of-lt, set_of_in, set_of_out, none_in, ∖_in, ∖_out, ∖-lt}
use Rattle.sets.proofs.Size.{le-or-lt, size-le, sub_same, size_pos}
use Rattle.meanings.specs.Quorums.{greatest}
use Rattle.meanings.specs.Rounds.{round, last_round, rounds_from, left_from, rounds, survivors}
use Rattle.theory.proofs.Quorum.{Monotone, ∪_grows, Quorum, a_node}
use Rattle.theory.proofs.Greatest.{greatest_unique}

module _ (n : ℕ) (s : ℕ → ℕ → Bool) (d : ℕ) where
  pub round-lt : (u : ℕ) → round n s d u < 2 ^ n
  unfolding round
  round-lt u = set_of-lt n (λ v. has u v && s (u ∪ d) v)

  pub round_out : (u i : ℕ) → In (round n s d u) i → In u i × (s (u ∪ d) i ≡ true)
  unfolding round
  round_out u i p = and_parts (has u i) (s (u ∪ d) i) (set_of_out n (λ v. has u v && s (u ∪ d) v) i p).1

  pub round_in : (u i : ℕ) → i < n → In u i → s (u ∪ d) i ≡ true → In (round n s d u) i
  unfolding round
  round_in u i l p q = set_of_in n (λ v. has u v && s (u ∪ d) v) i l (and_both (has u i) (s (u ∪ d) i) p q)

  pub round-sub : (u : ℕ) → Sub (round n s d u) u
  round-sub u i p = (round_out u i p).0

  -- a round that is not the last strikes a node, and leaves one
  pub not_last : (u : ℕ) → last_round n s d u ≡ false → ¬ (round n s d u ≡ u) × ¬ (round n s d u ≡ nobody)
  unfolding last_round
  not_last u e =
      let w = or_fails (eqb (round n s d u) u) (empty (round n s d u)) e in
      (eqb-false (round n s d u) u w.0, eqb-false (round n s d u) 0 w.1)

  pub is_last : (u : ℕ) → (round n s d u ≡ u) ⊎ (round n s d u ≡ nobody) → last_round n s d u ≡ true
  unfolding last_round
  is_last u (inl e) = or_left (eqb (round n s d u) u) (empty (round n s d u)) (eq-eqb (round n s d u) u e)
  is_last u (inr e) = or_right (eqb (round n s d u) u) (empty (round n s d u)) (eq-eqb (round n s d u) 0 e)

  pub last_is : (u : ℕ) → last_round n s d u ≡ true → (round n s d u ≡ u) ⊎ (round n s d u ≡ nobody)
  unfolding last_round
  last_is u e =
      ⊎_elim (λ x. inl (eqb-true (round n s d u) u x)) (λ x. inr (eqb-true (round n s d u) 0 x))
      (or_cases (eqb (round n s d u) u) (empty (round n s d u)) e)

  pub is_not_last : (u : ℕ) → ¬ (round n s d u ≡ u) → ¬ (round n s d u ≡ nobody) → last_round n s d u ≡ false
  is_not_last u f g = fails (last_round n s d u) (λ e. ⊎_elim f g (last_is u e))

  pub round_less : (u : ℕ) → u < 2 ^ n → ¬ (round n s d u ≡ u) → size n (round n s d u) < size n u
  round_less u h e =
      ⊎_elim (λ (l : size n u ≤ size n (round n s d u)). absurd (e (sub_same n (round n s d u) u (round-lt u) h (round-sub u) l))) (λ l. l)
      (le-or-lt (size n u) (size n (round n s d u)))

  -- ---- the steps that a walk over rounds takes
  left_last : (f u : ℕ) → last_round n s d u ≡ true → left_from n s d (suc f) u ≡ round n s d u
  unfolding left_from
  left_last f u e = rw (left_from, e)

  left_more : (f u : ℕ) → last_round n s d u ≡ false → left_from n s d (suc f) u ≡ left_from n s d f (round n s d u)
  unfolding left_from
  left_more f u e = rw (left_from, e)

  rounds_last : (f u : ℕ) → last_round n s d u ≡ true → rounds_from n s d (suc f) u ≡ 1
  unfolding rounds_from
  rounds_last f u e = rw (rounds_from, e)

  rounds_more : (f u : ℕ) → last_round n s d u ≡ false → rounds_from n s d (suc f) u ≡ suc (rounds_from n s d f (round n s d u))
  unfolding rounds_from
  rounds_more f u e = rw (rounds_from, e)

  -- a set with a node has as many rounds before it as nodes, at the most: more change nothing
  module _ (u : ℕ) (h : u < 2 ^ n) (z : ¬ (u ≡ nobody)) where
    some_size : 0 < size n u
    some_size = let w = a_node n s u h z in size_pos n u w.0 h w.1

  left-suc : (f u : ℕ) → u < 2 ^ n → ¬ (u ≡ nobody) → size n u ≤ f → left_from n s d (suc f) u ≡ left_from n s d f u
  left-suc zero u h z l = let p = some_size u h z in let q : ⊥ = omega arith in absurd q
  left-suc (suc f) u h z l =
      let ih : last_round n s d u ≡ false → left_from n s d (suc f) (round n s d u) ≡ left_from n s d f (round n s d u) =
      λ e. let w = not_last u e in
      let less = round_less u h w.0 in
      left-suc f (round n s d u) (round-lt u) w.1 (omega arith) in
      ⊎_elim (λ e. left_last (suc f) u e ∙ sym (left_last f u e)) (λ e. left_more (suc f) u e ∙ ih e ∙ sym (left_more f u e))
      (either (last_round n s d u))

  rounds-suc : (f u : ℕ) → u < 2 ^ n → ¬ (u ≡ nobody) → size n u ≤ f → rounds_from n s d (suc f) u ≡ rounds_from n s d f u
  rounds-suc zero u h z l = let p = some_size u h z in let q : ⊥ = omega arith in absurd q
  rounds-suc (suc f) u h z l =
      let ih : last_round n s d u ≡ false → rounds_from n s d (suc f) (round n s d u) ≡ rounds_from n s d f (round n s d u) =
      λ e. let w = not_last u e in
      let less = round_less u h w.0 in
      rounds-suc f (round n s d u) (round-lt u) w.1 (omega arith) in
      ⊎_elim (λ e. rounds_last (suc f) u e ∙ sym (rounds_last f u e)) (λ e. rounds_more (suc f) u e ∙ ap suc (ih e) ∙ sym (rounds_more f u e))
      (either (last_round n s d u))

  module _ (u : ℕ) (h : u < 2 ^ n) (z : ¬ (u ≡ nobody)) where
    pub left_stops : last_round n s d u ≡ true → left_from n s d n u ≡ round n s d u
    left_stops e = sym (left-suc n u h z (size-le n u)) ∙ left_last n u e

    pub left_goes_on : last_round n s d u ≡ false → left_from n s d n u ≡ left_from n s d n (round n s d u)
    left_goes_on e = sym (left-suc n u h z (size-le n u)) ∙ left_more n u e

    pub rounds_stop : last_round n s d u ≡ true → rounds_from n s d n u ≡ 1
    rounds_stop e = sym (rounds-suc n u h z (size-le n u)) ∙ rounds_last n u e

    pub rounds_go_on : last_round n s d u ≡ false → rounds_from n s d n u ≡ suc (rounds_from n s d n (round n s d u))
    rounds_go_on e = sym (rounds-suc n u h z (size-le n u)) ∙ rounds_more n u e

  -- ---- how many rounds
  pub rounds_bounds : (f u : ℕ) → u < 2 ^ n → ¬ (u ≡ nobody) → size n u ≤ f → (1 ≤ rounds_from n s d f u) × (rounds_from n s d f u ≤ size n u)
  rounds_bounds zero u h z l = let p = some_size u h z in let q : ⊥ = omega arith in absurd q
  rounds_bounds (suc f) u h z l =
      let p = some_size u h z in
      let ih : last_round n s d u ≡ false → rounds_from n s d f (round n s d u) < size n u =
      λ e. let w = not_last u e in
      let less = round_less u h w.0 in
      let b = rounds_bounds f (round n s d u) (round-lt u) w.1 (omega arith) in
      omega arith in
      ⊎_elim
      (λ e. let r = rounds_last f u e in (omega arith, omega arith))
      (λ e. let r = rounds_more f u e in let b = ih e in (omega arith, omega arith))
      (either (last_round n s d u))

  -- ---- who is left
  pub left-sub : (f u : ℕ) → Sub (left_from n s d f u) u
  unfolding left_from
  left-sub zero u i p = none_in nobody i refl p
  left-sub (suc f) u i p =
      let ih : In (left_from n s d f (round n s d u)) i → In u i = λ q. round-sub u i (left-sub f (round n s d u) i q) in
      ⊎_elim (λ e. round-sub u i (subst (λ (m : ℕ). In m i) (left_last f u e) p)) (λ e. ih (subst (λ (m : ℕ). In m i) (left_more f u e) p))
      (either (last_round n s d u))

  pub left_settled : (f u : ℕ) → u < 2 ^ n → ¬ (u ≡ nobody) → size n u ≤ f
      → (left_from n s d f u ≡ nobody) ⊎ (round n s d (left_from n s d f u) ≡ left_from n s d f u)
  left_settled zero u h z l = let p = some_size u h z in let q : ⊥ = omega arith in absurd q
  left_settled (suc f) u h z l =
      let ih : last_round n s d u ≡ false → (left_from n s d (suc f) u ≡ nobody) ⊎ (round n s d (left_from n s d (suc f) u) ≡ left_from n s d (suc f) u) =
      λ e. let w = not_last u e in
      let less = round_less u h w.0 in
      subst (λ (m : ℕ). (m ≡ nobody) ⊎ (round n s d m ≡ m)) (sym (left_more f u e))
      (left_settled f (round n s d u) (round-lt u) w.1 (omega arith)) in
      ⊎_elim
      (λ e. ⊎_elim
      (λ x. inr (ap (round n s d) (left_last f u e ∙ x) ∙ sym (left_last f u e)))
      (λ x. inl (left_last f u e ∙ x))
      (last_is u e))
      ih
      (either (last_round n s d u))

  module _ (mono : Monotone s) where
    -- a quorum in u is not struck
    pub quorum_stays : (u q : ℕ) → Quorum n s d q → Sub q u → Sub q (round n s d u)
    quorum_stays u q a f i p =
        round_in u i (has_below n q i a.below p) (f i p) (mono (q ∪ d) (u ∪ d) i (∪_grows q u d f) (a.met i p))

    pub left-has : (f u q : ℕ) → Quorum n s d q → Sub q u → u < 2 ^ n → size n u ≤ f → Sub q (left_from n s d f u)
    left-has zero u q a f h l i p =
        let w = size_pos n u i h (f i p) in
        let x : ⊥ = omega arith in
        absurd x
    left-has (suc g) u q a f h l i p =
        let ih : last_round n s d u ≡ false → In (left_from n s d g (round n s d u)) i =
        λ e. let w = not_last u e in
        let less = round_less u h w.0 in
        left-has g (round n s d u) q a (quorum_stays u q a f) (round-lt u) (omega arith) i p in
        ⊎_elim
        (λ e. subst (λ (m : ℕ). In m i) (sym (left_last g u e)) (quorum_stays u q a f i p))
        (λ e. subst (λ (m : ℕ). In m i) (sym (left_more g u e)) (ih e))
        (either (last_round n s d u))

    -- whoever is settled and apart from d is a quorum
    pub settled_quorum : (u : ℕ) → ¬ (u ≡ nobody) → round n s d u ≡ u → ((i : ℕ) → In u i → has d i ≡ false) → Quorum n s d u
    settled_quorum u z e f =
        record {
          some_node = z;
          below = subst (λ (m : ℕ). m < 2 ^ n) e (round-lt u);
          apart = f;
          met = λ i p. (round_out u i (subst (λ (m : ℕ). In m i) (sym e) p)).1;
        }

    pub quorum_settled : (u : ℕ) → Quorum n s d u → round n s d u ≡ u
    quorum_settled u q =
        Rattle.sets.proofs.Members.sub_antisym n (round n s d u) u (round-lt u) q.below (round-sub u) (quorum_stays u u q (λ i p. p))

    -- ---- from any set of nodes to start with
    start_lt : (u : ℕ) → u < 2 ^ n → u ∖ d < 2 ^ n
    start_lt u h = ∖-lt n u d h

    -- those who are left are the greatest quorum
    pub survivors-greatest : (u : ℕ) → u < 2 ^ n → survivors n s d u ≡ greatest n s d u
    unfolding survivors
    survivors-greatest u h =
        ⊎_elim
        (λ (e : empty (u ∖ d) ≡ true). rw (survivors, e) (greatest_unique n s d u nobody (pow_pos n) (λ q a f i p. out_of_start e q a f i p) (inl refl)))
        (λ (e : empty (u ∖ d) ≡ false). rw (survivors, e)
        (greatest_unique n s d u (left_from n s d n (u ∖ d)) (left_lt e) (λ q a f. left-has n (u ∖ d) q a (into_start q a f) (start_lt u h) (size-le n (u ∖ d)))
        (⊎_elim
        (λ x. inl x)
        (λ x. left-quorum e x)
        (left_settled n (u ∖ d) (start_lt u h) (eqb-false (u ∖ d) 0 e) (size-le n (u ∖ d))))))
        (either (empty (u ∖ d)))
      where
        into_start : (q : ℕ) → Quorum n s d q → Sub q u → Sub q (u ∖ d)
        into_start q a f i p = ∖_in u d i (f i p) (a.apart i p)

        out_of_start : empty (u ∖ d) ≡ true → (q : ℕ) → Quorum n s d q → Sub q u → Sub q nobody
        out_of_start e q a f i p = none_in (u ∖ d) i (eqb-true (u ∖ d) 0 e) (into_start q a f i p)

        start_out : (i : ℕ) → In (left_from n s d n (u ∖ d)) i → In u i × (has d i ≡ false)
        start_out i p = ∖_out u d i (left-sub n (u ∖ d) i p)

        left_lt : empty (u ∖ d) ≡ false → left_from n s d n (u ∖ d) < 2 ^ n
        left_lt e =
            ⊎_elim (λ x. subst (λ (m : ℕ). m < 2 ^ n) (sym x) (pow_pos n)) (λ x. subst (λ (m : ℕ). m < 2 ^ n) x (round-lt (left_from n s d n (u ∖ d))))
            (left_settled n (u ∖ d) (start_lt u h) (eqb-false (u ∖ d) 0 e) (size-le n (u ∖ d)))

        left-quorum : empty (u ∖ d) ≡ false → round n s d (left_from n s d n (u ∖ d)) ≡ left_from n s d n (u ∖ d)
            → (left_from n s d n (u ∖ d) ≡ nobody) ⊎ (Quorum n s d (left_from n s d n (u ∖ d)) × Sub (left_from n s d n (u ∖ d)) u)
        left-quorum e x =
            ⊎_elim (λ z. inl (eqb-true (left_from n s d n (u ∖ d)) 0 z))
            (λ z. inr (settled_quorum (left_from n s d n (u ∖ d)) (eqb-false (left_from n s d n (u ∖ d)) 0 z) x (λ i p. (start_out i p).1), λ i p. (start_out i p).0))
            (either (empty (left_from n s d n (u ∖ d))))

  -- For k nodes to start with, k at least 1, rounds are 1 to k; for none, 0.
  pub rounds-none : (u : ℕ) → u ∖ d ≡ nobody → rounds n s d u ≡ 0
  unfolding rounds
  rounds-none u e = rw (rounds, eq-eqb (u ∖ d) 0 e)

  pub rounds-some : (u : ℕ) → u < 2 ^ n → ¬ (u ∖ d ≡ nobody) → (1 ≤ rounds n s d u) × (rounds n s d u ≤ size n (u ∖ d))
  unfolding rounds
  rounds-some u h z =
      rw (rounds, ne_eqb (u ∖ d) 0 z) (rounds_bounds n (u ∖ d) (∖-lt n u d h) z (size-le n (u ∖ d)))
