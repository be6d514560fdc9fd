-- The rounds end: a round that is not the last leaves fewer nodes. So a larger bound on them changes nothing, and the rounds from where
-- one leaves off, within the bound of all, answer what is left.
use mathlib.Core.Path.{◌≡◌, refl, sym, ap, ap₂, ◌∙◌, subst}
use mathlib.Core.Bool.{Bool, true, false}
use mathlib.Core.List.{List}
use Prim.Native.Nat.{ℕ, zero, suc, ◌^◌, ◌<◌}
use native.Mathlib.Nat.{not-suc-le-zero}
use native.Mathlib.Omega.{arith}
use borrow.Author.Tests.{eq-eqb, ne_eqb}
use Rattle.std.specs.Prelude.{Ok, Err}
use Rattle.sets.specs.Sets.{nobody, everyone, ◌∩◌, ◌∖◌, empty, size}
use Rattle.sets.proofs.Size.{sub-size, size-le}
use Rattle.meanings.specs.Table.{nodes, satisfied}
use Rattle.meanings.specs.Quorums.{greatest}
use Rattle.meanings.specs.Trees.{Pair, Walk, hit, missed, stuck}
use Rattle.meanings.specs.Intact.{Ended, ended_later, verdict, next_u, on_round, on_plain, rounds_from, intact_search}
use Rattle.theory.proofs.Quorum.{Monotone}
use Rattle.theory.proofs.Greatest.{greatest-lt, greatest-sub}
use Rattle.theory.proofs.Verdict.{Sound, Decided, all_meet, two_apart, decided}
use Rattle.theory.proofs.Intact.{rounds_step, search_step, next_lt, next_fewer}
use Rattle.satisfaction.proofs.Monotone.{satisfied_monotone}
use Rattle.answers.specs.declared.Refusal.{Refusal}
use Rattle.answers.specs.declared.Refusal.TheVariants as Xx
use Rattle.answers.specs.declared.Verdict.TheVariants as Vx
use Rattle.verdict.specs.Search.{within as verdict_within}
use Rattle.intact.specs.Rounds.{within, rounds_of, Sequel}
use Rattle.intact.proofs.Allowance.{after, said-yes, said-no, round_refused, round_ends, plain_refused, plain_ends}

module _ (n : ℕ) (s : ℕ → ℕ → Bool) (mono : Monotone s) where
  -- a verdict that finds a pair with all but q counted out leaves fewer than q has
  pub found_fewer : (u : ℕ) (x : Pair) (k : ℕ) → verdict n s (everyone n ∖ greatest n s nobody u) ≡ hit x k
      → (next_u n s (greatest n s nobody u) x < 2 ^ n) × (size n (next_u n s (greatest n s nobody u) x) < size n u)
  found_fewer u x k e = go (decided n s (everyone n ∖ q) mono)
    where
      q : ℕ
      q = greatest n s nobody u

      pair : Walk Pair → Pair
      pair (hit y j) = y
      pair (missed j) = x
      pair (stuck j) = x

      is_hit : Walk Pair → ℕ
      is_hit (hit y j) = 1
      is_hit (missed j) = 0
      is_hit (stuck j) = 0

      go : Decided n s (everyone n ∖ q) mono → (next_u n s q x < 2 ^ n) × (size n (next_u n s q x) < size n u)
      go (all_meet j w i few) = let z : ◌≡◌ {A = ℕ} 0 1 = ap is_hit (sym w ∙ e) in absurd (omega arith)
      go (two_apart y j w d i few) =
          let same : y ≡ x = ap pair (sym w ∙ e) in
          let d' = subst (Sound n s (everyone n ∖ q)) same d in
          let hq = greatest-lt n s nobody u in
          let a = next_fewer n s mono q hq x d' in
          let b = sub-size n q u (greatest-sub n s nobody u) in
          (next_lt n s mono q hq x d', omega arith)

  -- a larger bound changes nothing
  pub larger_bound : (f u : ℕ) → size n u < f → rounds_from n s (suc f) u ≡ rounds_from n s f u
  larger_bound zero u l = absurd (not-suc-le-zero l)
  larger_bound (suc f) u l =
      go (decided n s (everyone n ∖ q) mono) (λ x h. larger_bound f (next_u n s q x) h)
    where
      q : ℕ
      q = greatest n s nobody u

      go : Decided n s (everyone n ∖ q) mono
          → ((x : Pair) → size n (next_u n s q x) < f → rounds_from n s (suc f) (next_u n s q x) ≡ rounds_from n s f (next_u n s q x))
          → rounds_from n s (suc (suc f)) u ≡ rounds_from n s (suc f) u
      go (all_meet k e i few) ih = rounds_step n s (suc f) u (missed k) e ∙ sym (rounds_step n s f u (missed k) e)
      go (two_apart x k e w i few) ih =
          let h = (found_fewer u x k e).1 in
          rounds_step n s (suc f) u (hit x k) e ∙ ap (ended_later k) (ih x (omega arith)) ∙ sym (rounds_step n s f u (hit x k) e)

-- ---- the next u, from W1 and W2
module _ (n : ℕ) (s : ℕ → ℕ → Bool) (q : ℕ) (p : Pair) (w1 w2 : ℕ) (first_is : w1 ≡ greatest n s nobody (q ∖ p.first)) (second_is : w2 ≡ greatest n s nobody (q ∖ p.second)) where
  abbrev choice : Bool → Bool → ℕ → ℕ → ℕ
  choice a b x y = elim a [ true ↦ y | false ↦ elim b [ true ↦ x | false ↦ x ∩ y ] ]

  chosen : (a b : Bool) → empty w1 ≡ a → empty w2 ≡ b → choice a b w1 w2 ≡ next_u n s q p
  unfolding next_u
  chosen a b e f =
      ap₂ (λ (x y : Bool). choice x y w1 w2) (sym e) (sym f)
      ∙ ap₂ (λ (x y : ℕ). choice (empty x) (empty y) x y) first_is second_is

  pub first_empty : w1 ≡ 0 → w2 ≡ next_u n s q p
  first_empty z = chosen true (empty w2) (eq-eqb w1 0 z) refl

  pub second_empty : ¬ (w1 ≡ 0) → w2 ≡ 0 → w1 ≡ next_u n s q p
  second_empty a z = chosen false true (ne_eqb w1 0 a) (eq-eqb w2 0 z)

  pub shared : ¬ (w1 ≡ 0) → ¬ (w2 ≡ 0) → w1 ∩ w2 ≡ next_u n s q p
  shared a b = chosen false false (ne_eqb w1 0 a) (ne_eqb w2 0 b)

-- ---- a round
module _ (t : List ℕ) (u allowance spent q : ℕ) (q_is : q ≡ greatest (nodes t) (satisfied t) nobody u) where
  abbrev n : ℕ
  n = nodes t

  abbrev s : ℕ → ℕ → Bool
  s = satisfied t

  -- the rounds after it
  abbrev then_rounds : Pair → Ended
  then_rounds p = rounds_from n s n (next_u n s q p)

  -- its verdict: all but q counted out
  abbrev found : Walk Pair
  found = verdict n s (everyone n ∖ q)

  rounds_are : on_round n s q found then_rounds ≡ rounds_of t u
  rounds_are =
      ap (λ (x : ℕ). on_round n s x (verdict n s (everyone n ∖ x)) (λ p. rounds_from n s n (next_u n s x p))) q_is
      ∙ sym (rounds_step n s n u (verdict n s (everyone n ∖ greatest n s nobody u)) refl)

  -- where its verdict is refused, or yes, it is the last
  pub stops : (e : Refusal) → Err e ≡ verdict_within allowance spent found → Err e ≡ within allowance spent (rounds_of t u)
  stops e w = round_refused allowance spent n s q found then_rounds e w ∙ ap (within allowance spent) rounds_are

  pub ends : (k : ℕ) → Ok (Vx.Yes k) ≡ verdict_within allowance spent found → Ok (record { set = q; visits = k }) ≡ within allowance spent (rounds_of t u)
  ends k w = round_ends allowance spent n s q found then_rounds k w ∙ ap (within allowance spent) rounds_are

  -- where it finds a pair, in time, the rounds go on from the next u
  pub goes_on : (a b k o : ℕ) → Ok (Vx.No a b k) ≡ verdict_within allowance spent found → o ≡ next_u n s q (record { first = a; second = b })
      → Sequel t allowance (record { set = u; visits = spent }) (record { set = o; visits = k })
  goes_on a b k o e f =
      let x : Pair = record { first = a; second = b } in
      let w = said-no allowance spent found a b k e in
      let j = w.0 in
      let pair : verdict n s (everyone n ∖ greatest n s nobody u) ≡ hit x j = ap (λ (m : ℕ). verdict n s (everyone n ∖ m)) (sym q_is) ∙ w.1 in
      let next : o ≡ next_u n s (greatest n s nobody u) x = f ∙ ap (λ (m : ℕ). next_u n s m x) q_is in
      let h = found_fewer n s (satisfied_monotone t) u x j pair in
      let l = size-le n u in
      let few : size n (next_u n s (greatest n s nobody u) x) < n = omega (arith, h.1) in
      subst (λ (m : ℕ). Sequel t allowance (record { set = u; visits = spent }) (record { set = m; visits = k })) (sym next)
      (record {
        inside = h.0;
        fewer = h.1;
        same = ap (λ (m : ℕ). within allowance m (rounds_of t (next_u n s (greatest n s nobody u) x))) w.2
            ∙ after allowance spent j (rounds_of t (next_u n s (greatest n s nobody u) x))
            ∙ ap (λ (z : Ended). within allowance spent (ended_later j z)) (larger_bound n s (satisfied_monotone t) n (next_u n s (greatest n s nobody u) x) few)
            ∙ ap (within allowance spent) (sym (rounds_step n s n u (hit x j) pair));
      })

-- ---- the plain verdict first
module _ (t : List ℕ) (ill allowance : ℕ) where
  abbrev plainly : Walk Pair
  plainly = verdict (nodes t) (satisfied t) nobody

  abbrev then_all : Ended
  then_all = rounds_of t (everyone (nodes t) ∖ ill)

  search_is : on_plain (nodes t) (satisfied t) plainly then_all ≡ intact_search (nodes t) (satisfied t) ill
  search_is = sym (search_step (nodes t) (satisfied t) ill plainly refl)

  -- where it is refused, or no, it ends the question
  pub plain_stops : (e : Refusal) → Err e ≡ verdict_within allowance 0 plainly → Err e ≡ within allowance 0 (intact_search (nodes t) (satisfied t) ill)
  plain_stops e w = plain_refused allowance 0 (nodes t) (satisfied t) plainly then_all e w ∙ ap (within allowance 0) search_is

  pub plain_divides : (a b k : ℕ) → Ok (Vx.No a b k) ≡ verdict_within allowance 0 plainly
      → Err (Xx.Divided a b k) ≡ within allowance 0 (intact_search (nodes t) (satisfied t) ill)
  plain_divides a b k w = plain_ends allowance 0 (nodes t) (satisfied t) plainly then_all a b k w ∙ ap (within allowance 0) search_is

  -- after a yes, the rounds answer it
  pub plain_goes_on : (k : ℕ) → Ok (Vx.Yes k) ≡ verdict_within allowance 0 plainly → within allowance k then_all ≡ within allowance 0 (intact_search (nodes t) (satisfied t) ill)
  plain_goes_on k e =
      let w = said-yes allowance 0 plainly k e in
      ap (λ (x : ℕ). within allowance x then_all) w.2
      ∙ after allowance 0 w.0 then_all
      ∙ ap (within allowance 0) (sym (search_step (nodes t) (satisfied t) ill (missed w.0) w.1))
