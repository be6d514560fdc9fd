-- The inner sets of a record stand in the run of deeper records right after it. Up to the first record at its level or above no
-- record between is at its level, so each record one level deeper is an inner set of it; and from there on, levels rising one at
-- a time, none is, since its own level must be passed first. Where the record is at level 0 levels need not be in step: none is above it.
use mathlib.Core.Path.{◌≡◌, refl, sym, ap, ap₂, ◌∙◌, subst}
use mathlib.Core.Bool.{Bool, true, false, not, ◌&&◌, ◌||◌, and-true}
use mathlib.Core.Logic.{◌⊎◌, inl, inr, ⊎_elim}
use mathlib.Core.List.{List, [], ◌∷◌}
use Prim.Native.Nat.{ℕ, zero, suc, ◌+◌, ◌-◌, ◌≤◌, ◌<◌}
use native.Mathlib.Nat.{add-zero, add-suc, le_refl}
use native.Mathlib.Numerals.{add-one}
use native.Mathlib.Omega.{arith}
use borrow.Author.Tests.{le-leb, lt-leb, eq-eqb, ne_eqb, ltb-false}
use lib.Dec.{leb, eqb}
use lib.ListN.{length}
use Rattle.sets.specs.Lists.{keep, cons_if, some, from}
use Rattle.sets.proofs.Bools.{or_left, or_right, or_neither, and_left_fails, and_right_fails}
use Rattle.sets.proofs.Size.{le-or-lt}
use Rattle.meanings.specs.Table.{records, level, inner_of, inner_sets}
use Rattle.meanings.specs.Faults.{bad_level}
use Rattle.tables.specs.Run.{bump, inner_run}
use Rattle.tables.proofs.Lists.{some_last, keep-none}

-- ---- the steps of a walk over the run

-- from record r to the last
abbrev pub inner_from : (ℕ → Bool) → List ℕ → ℕ → ℕ → ℕ
inner_from f t k r = inner_run f t k (records t - r) r

pub run_stop : (f : ℕ → Bool) (t : List ℕ) (k n r : ℕ) → level t r ≤ k → inner_run f t k n r ≡ 0
unfolding inner_run
run_stop f t k zero r h = refl
run_stop f t k (suc n) r h = rw (inner_run, le-leb (level t r) k h)

run_more : (f : ℕ → Bool) (t : List ℕ) (k n r : ℕ) → k < level t r → inner_run f t k (suc n) r ≡ bump (eqb (level t r) (suc k) && f r) (inner_run f t k n (suc r))
unfolding inner_run
run_more f t k n r h = rw (inner_run, lt-leb (level t r) k h)

pub from_end : (f : ℕ → Bool) (t : List ℕ) (k r : ℕ) → records t ≤ r → inner_from f t k r ≡ 0
unfolding inner_run
from_end f t k r h = let e : records t - r ≡ 0 = omega arith in rw e

pub from_stop : (f : ℕ → Bool) (t : List ℕ) (k r : ℕ) → level t r ≤ k → inner_from f t k r ≡ 0
from_stop f t k r h = run_stop f t k (records t - r) r h

module _ (f : ℕ → Bool) (t : List ℕ) (k r : ℕ) (l : r < records t) (h : k < level t r) where
  from_more : inner_from f t k r ≡ bump (eqb (level t r) (suc k) && f r) (inner_from f t k (r + 1))
  from_more =
      let e : records t - r ≡ suc (records t - (r + 1)) = omega arith in
      ap (λ (n : ℕ). inner_run f t k n r) e ∙ run_more f t k (records t - (r + 1)) r h
      ∙ ap (λ (n : ℕ). bump (eqb (level t r) (suc k) && f r) (inner_run f t k (records t - (r + 1)) n)) (sym (add-one r))

  -- an inner set that passes, one that does not, and a record deeper than the inner sets
  pub from_hit : level t r ≡ suc k → f r ≡ true → inner_from f t k r ≡ suc (inner_from f t k (r + 1))
  from_hit e q = from_more ∙ rw (eq-eqb (level t r) (suc k) e, q)

  pub from_miss : f r ≡ false → inner_from f t k r ≡ inner_from f t k (r + 1)
  from_miss q = from_more ∙ ap (λ (b : Bool). bump b (inner_from f t k (r + 1))) (and_right_fails (eqb (level t r) (suc k)) (f r) q)

  pub from_deeper : ¬ (level t r ≡ suc k) → inner_from f t k r ≡ inner_from f t k (r + 1)
  from_deeper e = from_more ∙ rw (ne_eqb (level t r) (suc k) e)

-- no more than the records that are left
run_le : (f : ℕ → Bool) (t : List ℕ) (k n r : ℕ) → inner_run f t k n r ≤ n
unfolding inner_run
run_le f t k zero r = le_refl 0
run_le f t k (suc n) r = stop (leb (level t r) k) (eqb (level t r) (suc k) && f r) (inner_run f t k n (suc r)) (run_le f t k n (suc r))
  where
    stop : (a b : Bool) (m : ℕ) → m ≤ n → elim a [ true ↦ 0 | false ↦ bump b m ] ≤ suc n
    stop true b m h = omega arith
    stop false true m h = omega arith
    stop false false m h = omega arith

pub from_le : (f : ℕ → Bool) (t : List ℕ) (k r : ℕ) → inner_from f t k r ≤ records t - r
from_le f t k r = run_le f t k (records t - r) r

-- ---- the run has all inner sets
module _ (t : List ℕ) (r : ℕ) where
  -- a record at r's level between r and j
  abbrev between : ℕ → Bool
  between j = some (λ m. eqb (level t m) (level t r)) (from (suc r) (j - suc r))

  between_step : (j : ℕ) → r < j → between (suc j) ≡ (between j || eqb (level t j) (level t r))
  between_step j h =
      let e : suc j - suc r ≡ suc (j - suc r) = omega arith in
      let d : suc r + (j - suc r) ≡ j = omega arith in
      ap (λ (n : ℕ). some (λ m. eqb (level t m) (level t r)) (from (suc r) n)) e
      ∙ some_last (λ m. eqb (level t m) (level t r)) (suc r) (j - suc r)
      ∙ ap (λ (n : ℕ). between j || eqb (level t n) (level t r)) d

  between_none : between (suc r) ≡ false
  unfolding some from
  between_none = let e : suc r - suc r ≡ 0 = omega arith in rw e

  -- while none is between, an inner set is a record one level deeper
  inner_open : (j : ℕ) → between j ≡ false → inner_of t r j ≡ eqb (level t j) (suc (level t r))
  unfolding inner_of
  inner_open j e = rw e (and-true (eqb (level t j) (suc (level t r))))

  inner_shut : (j : ℕ) → (level t j ≤ level t r) ⊎ (between j ≡ true) → inner_of t r j ≡ false
  unfolding inner_of
  inner_shut j (inl h) = and_left_fails (eqb (level t j) (suc (level t r))) (not (between j)) (ne_eqb (level t j) (suc (level t r)) (λ e. omega arith))
  inner_shut j (inr e) = and_right_fails (eqb (level t j) (suc (level t r))) (not (between j)) (ap not e)

  -- whatever leads from r's level or above to a deeper record is at r's level
  abbrev Passed : Type 0
  Passed = (j : ℕ) → suc j < records t → level t j ≤ level t r → level t r < level t (suc j) → level t j ≡ level t r

  in_step_passed : ((j : ℕ) → j < records t → bad_level t j ≡ false) → Passed
  unfolding bad_level
  in_step_passed steps j l p q = let s = ltb-false (suc (level t j)) (level t (suc j)) (steps (suc j) l) in omega arith

  head_passed : level t r ≡ 0 → Passed
  head_passed e j l p q = omega arith

  module _ (passed : Passed) where
    -- past a record at r's level or above, each is so too, or has one at r's level between
    shut_step : (j : ℕ) → r < j → suc j < records t → (level t j ≤ level t r) ⊎ (between j ≡ true) → (level t (suc j) ≤ level t r) ⊎ (between (suc j) ≡ true)
    shut_step j h l (inr e) = inr (between_step j h ∙ or_left (between j) (eqb (level t j) (level t r)) e)
    shut_step j h l (inl p) =
        ⊎_elim (λ q. inl q)
        (λ (q : level t r < level t (suc j)).
        inr (between_step j h ∙ or_right (between j) (eqb (level t j) (level t r)) (eq-eqb (level t j) (level t r) (passed j l p q))))
        (le-or-lt (level t (suc j)) (level t r))

    shut : (j : ℕ) → r < j → level t j ≤ level t r → (n : ℕ) → j + n < records t → (level t (j + n) ≤ level t r) ⊎ (between (j + n) ≡ true)
    shut j h p zero l = inl (rw add-zero p)
    shut j h p (suc n) l =
        rw add-suc (shut_step (j + n) (omega arith) (rw add-suc at l) (shut j h p n (omega arith)))

    -- past such a record there is no inner set any more
    shut_none : (j n : ℕ) → r < j → level t j ≤ level t r → j + n ≤ records t → keep (inner_of t r) (from j n) ≡ []
    shut_none j n h p l =
        keep-none (inner_of t r) j n (λ i a b.
        let d : j + (i - j) ≡ i = omega arith in
        inner_shut i (subst (λ (m : ℕ). (level t m ≤ level t r) ⊎ (between m ≡ true)) d (shut j h p (i - j) (omega arith))))

    module _ (f : ℕ → Bool) where
      abbrev Counts : ℕ → ℕ → Type 0
      Counts j n = length (keep f (keep (inner_of t r) (from j n))) ≡ inner_run f t (level t r) n j

      counts_shut : (j n : ℕ) → r < j → j + n ≤ records t → level t j ≤ level t r → Counts j n
      unfolding keep
      counts_shut j n h l p = ap (λ (x : List ℕ). length (keep f x)) (shut_none j n h p l) ∙ sym (run_stop f t (level t r) n j p)

      keep-cons_if : (b : Bool) (x : ℕ) (l : List ℕ) → length (keep f (cons_if b x l)) ≡ bump (b && f x) (length (keep f l))
      unfolding keep
      keep-cons_if true x l = kept (f x)
        where
          kept : (b : Bool) → length (cons_if b x (keep f l)) ≡ bump b (length (keep f l))
          kept true = refl
          kept false = refl
      keep-cons_if false x l = refl

      counts_more : (j n : ℕ) → level t r < level t j → between j ≡ false → Counts (suc j) n → Counts j (suc n)
      unfolding keep from
      counts_more j n p e c =
          keep-cons_if (inner_of t r j) j (keep (inner_of t r) (from (suc j) n))
          ∙ ap₂ (λ (b : Bool) (m : ℕ). bump (b && f j) m) (inner_open j e) c
          ∙ sym (run_more f t (level t r) n j p)

      still_open : (j : ℕ) → r < j → level t r < level t j → between j ≡ false → between (suc j) ≡ false
      still_open j h p e =
          between_step j h ∙ or_neither (between j) (eqb (level t j) (level t r)) e (ne_eqb (level t j) (level t r) (λ q. omega arith))

      counts : (n j : ℕ) → r < j → j + n ≤ records t → between j ≡ false → Counts j n
      unfolding keep from inner_run
      counts zero j h l e = refl
      counts (suc n) j h l e = go (λ p. counts n (suc j) (omega arith) (omega arith) (still_open j h p e)) (le-or-lt (level t j) (level t r))
        where
          go : (level t r < level t j → Counts (suc j) n) → (level t j ≤ level t r) ⊎ (level t r < level t j) → Counts j (suc n)
          go c (inl p) = counts_shut j (suc n) h l p
          go c (inr p) = counts_more j n p e (c p)

      -- of the inner sets of record r, as many pass a test as a walk over its run counts
      inner_run_lem : r < records t → length (keep f (inner_sets t r)) ≡ inner_run f t (level t r) (records t - suc r) (suc r)
      unfolding inner_sets
      inner_run_lem l = counts (records t - suc r) (suc r) (omega arith) (omega arith) between_none

      run_from : r < records t → length (keep f (inner_sets t r)) ≡ inner_from f t (level t r) (r + 1)
      run_from l = inner_run_lem l ∙ ap (λ (j : ℕ). inner_from f t (level t r) j) (sym (add-one r))

  pub inner_from_lem : ((j : ℕ) → j < records t → bad_level t j ≡ false) → (f : ℕ → Bool) → r < records t → length (keep f (inner_sets t r)) ≡ inner_from f t (level t r) (r + 1)
  inner_from_lem steps f l = run_from (in_step_passed steps) f l

-- without a test, how many inner sets there are
keep_every : (l : List ℕ) → keep (λ j. true) l ≡ l
unfolding keep
keep_every [] = refl
keep_every (x ∷ l) = ap (λ (m : List ℕ). x ∷ m) (keep_every l)

module _ (t : List ℕ) (r : ℕ) where
  all_inner : Passed t r → r < records t → length (inner_sets t r) ≡ inner_from (λ j. true) t (level t r) (r + 1)
  all_inner passed l = ap length (sym (keep_every (inner_sets t r))) ∙ run_from t r passed (λ j. true) l

  pub inner_count : ((j : ℕ) → j < records t → bad_level t j ≡ false) → r < records t → length (inner_sets t r) ≡ inner_from (λ j. true) t (level t r) (r + 1)
  inner_count steps l = all_inner (in_step_passed t r steps) l

  -- those of a record at level 0, whatever the levels of the others
  pub head_inner : level t r ≡ 0 → r < records t → length (inner_sets t r) ≡ inner_from (λ j. true) t (level t r) (r + 1)
  head_inner e l = all_inner (head_passed t r e) l
