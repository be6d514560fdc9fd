-- A walk over the nodes gathers those who stay, which are all whom a round leaves. Over the rounds, what is left of those present is the
-- answer, and the rounds so far with those still to come are the number; a round that is not the last drops a node.
use mathlib.Core.Path.{◌≡◌, sym, ap, ◌∙◌, subst}
use mathlib.Core.Bool.{Bool, true, false, ◌&&◌}
use mathlib.Core.List.{List}
use mathlib.Core.Logic.{◌⊎◌, inl, inr, ⊎_elim}
use Prim.Native.Nat.{ℕ, ◌+◌, ◌^◌, ◌≤◌, ◌<◌}
use native.Mathlib.Omega.{arith}
use borrow.Author.Tests.{eq-eqb, ne_eqb}
use Rattle.sets.specs.Sets.{has, nobody, only, ◌∪◌, ◌∖◌, size, set_of}
use Rattle.sets.proofs.Bools.{and_both, and_left_fails, and_right_fails}
use Rattle.sets.proofs.Members.{set_hit, set_miss, ∖-lt}
use Rattle.sets.proofs.Size.{size-le}
use Rattle.meanings.specs.Table.{nodes, satisfied}
use Rattle.meanings.specs.Quorums.{greatest}
use Rattle.meanings.specs.Rounds.{round, rounds_from, left_from, rounds, survivors}
use Rattle.theory.proofs.Rounds.{round-lt, round_less, is_last, is_not_last, left_stops, left_goes_on, rounds_stop, rounds_go_on, survivors-greatest}
use Rattle.satisfaction.proofs.Monotone.{satisfied_monotone}

-- ---- one round

-- node v stays: it is present, and `with` satisfies its quorum set
abbrev pub stays : List ℕ → ℕ → ℕ → ℕ → Bool
stays t with present v = has present v && satisfied t with v

module _ (t : List ℕ) (with present v : ℕ) where
  pub one_stays : has present v ≡ true → satisfied t with v ≡ true → set_of v (stays t with present) ∪ only v ≡ set_of (v + 1) (stays t with present)
  one_stays p q = set_hit v (stays t with present) (and_both (has present v) (satisfied t with v) p q)

  pub one_goes : (has present v ≡ false) ⊎ (satisfied t with v ≡ false) → set_of v (stays t with present) ≡ set_of (v + 1) (stays t with present)
  one_goes w =
      set_miss v (stays t with present)
      (⊎_elim (and_left_fails (has present v) (satisfied t with v)) (and_right_fails (has present v) (satisfied t with v)) w)

-- the walk over all nodes has gathered a round
pub gathered : (t : List ℕ) (n d present keep v : ℕ) → n ≡ nodes t → v ≡ n → keep ≡ set_of v (stays t (present ∪ d) present) → keep ≡ round (nodes t) (satisfied t) d present
unfolding round
gathered t n d present keep v a e k = k ∙ ap (λ (m : ℕ). set_of m (stays t (present ∪ d) present)) (e ∙ a)

-- ---- the rounds
module _ (t : List ℕ) (d u : ℕ) where
  abbrev n : ℕ
  n = nodes t

  abbrev s : ℕ → ℕ → Bool
  s = satisfied t

  -- nobody to start with
  pub none_left : u ∖ d ≡ nobody → u < 2 ^ n → (nobody ≡ greatest n s d u) × (0 ≡ rounds n s d u)
  unfolding survivors rounds
  none_left e h =
      (sym (rw (survivors, eq-eqb (u ∖ d) 0 e)) ∙ survivors-greatest n s d (satisfied_monotone t) u h, sym (rw (rounds, eq-eqb (u ∖ d) 0 e)))

  -- somebody: the question is what is left of them
  pub some_left : ¬ (u ∖ d ≡ nobody) → u < 2 ^ n → (left_from n s d n (u ∖ d) ≡ greatest n s d u) × (rounds_from n s d n (u ∖ d) ≡ rounds n s d u)
  unfolding survivors rounds
  some_left z h =
      (sym (rw (survivors, ne_eqb (u ∖ d) 0 z)) ∙ survivors-greatest n s d (satisfied_monotone t) u h, sym (rw (rounds, ne_eqb (u ∖ d) 0 z)))

  -- where the loop stands: those present are somebody, and what is left of them is the answer
  pub record Standing (present count : ℕ) : Type 0 where
    pub below : present < 2 ^ n
    pub somebody : ¬ (present ≡ nobody)
    pub set : left_from n s d n present ≡ greatest n s d u
    pub number : count + rounds_from n s d n present ≡ rounds n s d u
    pub few : count + size n present ≤ n

  pub start : ¬ (u ∖ d ≡ nobody) → u < 2 ^ n → Standing (u ∖ d) 0
  start z h =
      let w = some_left z h in
      let l = size-le n (u ∖ d) in
      record { below = ∖-lt n u d h; somebody = z; set = w.0; number = omega arith; few = omega arith }

  module _ (present count keep : ℕ) (w : Standing present count) (k : keep ≡ round n s d present) where
    pub last : (keep ≡ present) ⊎ (keep ≡ nobody) → (keep ≡ greatest n s d u) × (count + 1 ≡ rounds n s d u)
    last e =
        let l = is_last n s d present (⊎_elim (λ x. inl (sym k ∙ x)) (λ x. inr (sym k ∙ x)) e) in
        let r = rounds_stop n s d present w.below w.somebody l in
        let m = w.number in
        (k ∙ sym (left_stops n s d present w.below w.somebody l) ∙ w.set, omega arith)

    pub fewer : ¬ (keep ≡ present) → size n keep < size n present
    fewer a = rw k (round_less n s d present w.below (λ e. a (k ∙ e)))

    pub again : ¬ (keep ≡ present) → ¬ (keep ≡ nobody) → Standing keep (count + 1)
    again a b =
        let l = is_not_last n s d present (λ e. a (k ∙ e)) (λ e. b (k ∙ e)) in
        let r = rounds_go_on n s d present w.below w.somebody l in
        let q = ap (rounds_from n s d n) k in
        let m = w.number in
        let f = fewer a in
        let g = w.few in
        record {
          below = subst (λ (x : ℕ). x < 2 ^ n) (sym k) (round-lt n s d present);
          somebody = b;
          set = ap (left_from n s d n) k ∙ sym (left_goes_on n s d present w.below w.somebody l) ∙ w.set;
          number = omega arith;
          few = omega arith;
        }
