-- Two nodes of whose quorum sets the same is written are alike: judging a record reads only the run of deeper records after it,
-- and a walk over one run goes in step with a walk over the other, up to the end of both sets, where both walks stop.
use mathlib.Core.Path.{◌≡◌, sym, ap, ap₂, ◌∙◌, subst}
use mathlib.Core.Bool.{Bool, true}
use mathlib.Core.Logic.{inl, inr, ⊎_elim}
use mathlib.Core.List.{List}
use Prim.Native.Nat.{ℕ, zero, suc, ◌+◌, ◌-◌, ◌/◌, ◌%◌, ◌<◌, ◌≤◌}
use native.Mathlib.Nat.{add-zero}
use native.Mathlib.Numerals.{sub-one}
use native.Mathlib.Omega.{arith}
use borrow.Author.Tests.{eqb-true, eqb-false}
use lib.Dec.{eqb}
use Rattle.sets.specs.Sets.{size, ◌∩◌}
use Rattle.sets.proofs.Bools.{either}
use Rattle.sets.proofs.Size.{le-or-lt}
use Rattle.meanings.specs.Table.{records, control, members, threshold, level, head_of, suffice, satisfies}
use Rattle.meanings.specs.Faults.{check, sound}
use Rattle.tables.proofs.Runs.{inner_from, from_end, from_stop, from_hit, from_miss, from_deeper}
use Rattle.satisfaction.proofs.Suffice.{same_suffice}
use Rattle.satisfaction.proofs.Laws.{judged_last, judged_more}
use Rattle.plans.specs.Alike.{Alike, set_end, set_of}
use Rattle.plans.proofs.Written.{Over, Bounds, set_records, set_control, set_members}

-- ---- records written the same
abbrev Same : List ℕ → ℕ → ℕ → Type 0
Same t a b = (control t a ≡ control t b) × (members t a ≡ members t b)

module _ (t : List ℕ) (a b : ℕ) (s : Same t a b) where
  same_level : level t a ≡ level t b
  unfolding level
  same_level = ap (λ (x : ℕ). x / 256) s.0

  same_threshold : threshold t a ≡ threshold t b
  unfolding threshold
  same_threshold = ap (λ (x : ℕ). x % 256) s.0

  same_met : (u : ℕ) → size 64 (members t a ∩ u) ≡ size 64 (members t b ∩ u)
  same_met u = ap (λ (m : ℕ). size 64 (m ∩ u)) s.1

-- ---- walks in step
module _ (f : ℕ → Bool) (t : List ℕ) (k : ℕ) where
  -- no walk goes past the end of a set
  pub from_last : (r : ℕ) → Over t r → inner_from f t k r ≡ 0
  from_last r (inl h) = from_end f t k r h
  from_last r (inr e) = from_stop f t k r (omega arith)

  -- two walks at records written the same go on in step
  module _ (x y : ℕ) (l : x < records t) (l' : y < records t) (v : level t x ≡ level t y) (q : f x ≡ f y) (ih : inner_from f t k (x + 1) ≡ inner_from f t k (y + 1)) where
    from_deep : k < level t x → k < level t y → inner_from f t k x ≡ inner_from f t k y
    from_deep h h' =
        ⊎_elim
        (λ (p : f x ≡ true).
        ⊎_elim
        (λ d.
        let z = eqb-true (level t x) (suc k) d in
        from_hit f t k x l h z p ∙ ap suc ih ∙ sym (from_hit f t k y l' h' (sym v ∙ z) (sym q ∙ p)))
        (λ d.
        let z = eqb-false (level t x) (suc k) d in
        from_deeper f t k x l h z ∙ ih ∙ sym (from_deeper f t k y l' h' (λ w. z (v ∙ w))))
        (either (eqb (level t x) (suc k))))
        (λ p. from_miss f t k x l h p ∙ ih ∙ sym (from_miss f t k y l' h' (sym q ∙ p)))
        (either (f x))

    from_step : inner_from f t k x ≡ inner_from f t k y
    from_step =
        ⊎_elim (λ h. from_stop f t k x h ∙ sym (from_stop f t k y (omega arith))) (λ h. from_deep h (omega arith)) (le-or-lt (level t x) k)

-- ---- sets written the same

-- m records from a on and from b on are written the same, and both sets end after them
record SameRun (t : List ℕ) (a b m : ℕ) : Type 0 where
  same : (i : ℕ) → i < m → Same t (a + i) (b + i)
  fits : a + m ≤ records t
  fits' : b + m ≤ records t
  ends : Over t (a + m)
  ends' : Over t (b + m)

module _ (t : List ℕ) (a b m : ℕ) (s : SameRun t a b m) where
  walks : (f : ℕ → Bool) (k : ℕ) → ((i : ℕ) → i < m → f (a + i) ≡ f (b + i)) → (n i : ℕ) → n + i ≡ m → inner_from f t k (a + i) ≡ inner_from f t k (b + i)
  walks f k g zero i e =
      let d : m ≡ i = omega arith in
      from_last f t k (a + i) (subst (λ (j : ℕ). Over t (a + j)) d s.ends)
      ∙ sym (from_last f t k (b + i) (subst (λ (j : ℕ). Over t (b + j)) d s.ends'))
  walks f k g (suc n) i e = more (walks f k g n (suc i) (omega arith))
    where
      more : inner_from f t k (a + suc i) ≡ inner_from f t k (b + suc i) → inner_from f t k (a + i) ≡ inner_from f t k (b + i)
      more ih =
          let l : i < m = omega arith in
          let w = s.fits in
          let w' = s.fits' in
          let c : a + suc i ≡ a + i + 1 = omega arith in
          let c' : b + suc i ≡ b + i + 1 = omega arith in
          from_step f t k (a + i) (b + i) (omega arith) (omega arith) (same_level t (a + i) (b + i) (s.same i l)) (g i l)
          (ap (inner_from f t k) (sym c) ∙ ih ∙ ap (inner_from f t k) c')

  module _ (sd : check t ≡ sound) (u : ℕ) where
    -- what is enough for a record of one run is enough for the one at its place in the other
    enough : (i : ℕ) → i < m → (k : ℕ) → suffice t (a + i) k ≡ suffice t (b + i) k
    enough i l =
        let w = s.fits in
        let w' = s.fits' in
        same_suffice t sd (a + i) (b + i) (omega arith) (omega arith) (same_threshold t (a + i) (b + i) (s.same i l))

    -- whoever satisfies a record of one run satisfies the one at its place in the other
    run_alike : (left i : ℕ) → i < m → satisfies left t u (a + i) ≡ satisfies left t u (b + i)
    run_alike zero i l =
        let r = s.same i l in
        judged_last t u (a + i)
        ∙ enough i l (size 64 (members t (a + i) ∩ u))
        ∙ ap (suffice t (b + i)) (same_met t (a + i) (b + i) r u)
        ∙ sym (judged_last t u (b + i))
    run_alike (suc left) i l = more (λ j h. run_alike left j h)
      where
        more : ((j : ℕ) → j < m → satisfies left t u (a + j) ≡ satisfies left t u (b + j)) → satisfies (suc left) t u (a + i) ≡ satisfies (suc left) t u (b + i)
        more ih =
            let w = s.fits in
            let w' = s.fits' in
            let r = s.same i l in
            let n : suc left - 1 ≡ left = sub-one (suc left) in
            let f : ℕ → Bool = λ j. satisfies (suc left - 1) t u j in
            let c : a + i + 1 ≡ a + suc i = omega arith in
            let c' : b + suc i ≡ b + i + 1 = omega arith in
            let inner : inner_from f t (level t (a + i)) (a + i + 1) ≡ inner_from f t (level t (b + i)) (b + i + 1) =
            ap₂ (inner_from f t) (same_level t (a + i) (b + i) r) c
            ∙ walks f (level t (b + i)) (λ j h. rw n (ih j h)) (m - suc i) (suc i) (omega arith)
            ∙ ap (inner_from f t (level t (b + i))) c' in
            judged_more (suc left) t u (a + i) sd (omega arith) (omega arith)
            ∙ enough i l (size 64 (members t (a + i) ∩ u) + inner_from f t (level t (a + i)) (a + i + 1))
            ∙ ap (suffice t (b + i)) (ap₂ ◌+◌ (same_met t (a + i) (b + i) r u) inner)
            ∙ sym (judged_more (suc left) t u (b + i) sd (omega arith) (omega arith))

  same_alike : check t ≡ sound → 0 < m → Alike t a b
  same_alike sd h w = rw (add-zero a, add-zero b) at (run_alike sd w 3 0 h)

-- nodes of whose quorum sets the same is written are alike
module _ (t : List ℕ) (i v : ℕ) (bi : Bounds t i) (bv : Bounds t v) (e : set_of t i ≡ set_of t v) where
  one_run : SameRun t (head_of t i) (head_of t v) (records (set_of t v))
  one_run =
      let n = ap records e in
      let ri : head_of t i + records (set_of t v) ≡ set_end t i = rw n at (set_records t i bi) in
      let rv = set_records t v bv in
      let fi = bi.fits in
      let fv = bv.fits in
      record {
        same = λ r l.
            let l' : r < records (set_of t i) = omega arith in (
              sym (set_control t i bi r l') ∙ ap (λ (s : List ℕ). control s r) e ∙ set_control t v bv r l,
              sym (set_members t i bi r l') ∙ ap (λ (s : List ℕ). members s r) e ∙ set_members t v bv r l,
            );
        fits = omega arith;
        fits' = omega arith;
        ends = subst (Over t) (sym ri) bi.over;
        ends' = subst (Over t) (sym rv) bv.over;
      }

  pub same_sets : check t ≡ sound → Alike t (head_of t i) (head_of t v)
  same_sets sd = let r = set_records t v bv in let b = bv.begins in same_alike t (head_of t i) (head_of t v) (records (set_of t v)) one_run sd (omega arith)
