-- What satisfying the set of a record comes to: the members that are in u, and the run of inner sets after the record. How many levels are
-- said to lie below a record alters nothing from as many on as there are, so the sentence of SPECIFICATION 3 holds as it stands.
use mathlib.Core.Path.{◌≡◌, refl, sym, ap, ap₂, ◌∙◌}
use mathlib.Core.Bool.{Bool, true, false, not, ◌&&◌}
use mathlib.Core.List.{List}
use mathlib.Core.Logic.{⊎_elim}
use Prim.Native.Nat.{ℕ, zero, suc, ◌+◌, ◌-◌, ◌<◌, ◌≤◌}
use native.Mathlib.Nat.{lt_irrefl, add-zero}
use native.Mathlib.Numerals.{sub-one}
use native.Mathlib.Omega.{arith}
use borrow.Author.Tests.{le-leb, lt-leb, leb-true, eqb-true, eqb-false}
use lib.Dec.{leb, eqb}
use lib.ListN.{length}
use Rattle.sets.specs.Sets.{size, ◌∩◌}
use Rattle.sets.specs.Lists.{keep}
use Rattle.sets.proofs.Bools.{either, and_left_fails, bool_ext}
use Rattle.sets.proofs.Size.{le-or-lt, size-nobody}
use Rattle.meanings.specs.Table.{records, members, threshold, level, inner_sets, suffice, satisfies}
use Rattle.meanings.specs.Faults.{check, sound}
use Rattle.tables.specs.Run.{bump, inner_run}
use Rattle.tables.proofs.Runs.{inner_from, inner_from_lem, from_end, from_stop}
use Rattle.tables.proofs.Sound.{sound_table}
use Rattle.satisfaction.specs.Judged.{holds, lack, still}
use Rattle.satisfaction.proofs.Suffice.{waiting-suffice, unknown_never, member_known}

pub judged_last : (t : List ℕ) (u r : ℕ) → satisfies 0 t u r ≡ suffice t r (size 64 (members t r ∩ u))
unfolding satisfies
judged_last t u r = refl

pub judged_more : (n : ℕ) (t : List ℕ) (u r : ℕ) → check t ≡ sound → r < records t → 0 < n
    → satisfies n t u r ≡ suffice t r (size 64 (members t r ∩ u) + inner_from (λ j. satisfies (n - 1) t u j) t (level t r) (r + 1))
unfolding satisfies
judged_more zero t u r e l h = absurd (lt_irrefl 0 h)
judged_more (suc n) t u r e l h =
    ap (λ (k : ℕ). suffice t r (size 64 (members t r ∩ u) + k))
    (inner_from_lem t r (λ j l'. ((sound_table t e).at j l').in_step) (λ j. satisfies n t u j) l
    ∙ ap (λ (m : ℕ). inner_from (λ j. satisfies m t u j) t (level t r) (r + 1)) (sym (sub-one (suc n))))

-- two tests that hold together
pub leb_same : (a b c d : ℕ) → (a ≤ b → c ≤ d) → (c ≤ d → a ≤ b) → leb a b ≡ leb c d
leb_same a b c d f g = bool_ext (leb a b) (leb c d) (λ p. le-leb c d (f (leb-true a b p))) (λ p. le-leb a b (g (leb-true c d p)))

-- what is in hand is no longer wanted
leb-left : (k s n : ℕ) → leb k (s + n) ≡ leb (k - s) n
leb-left k s n = leb_same k (s + n) (k - s) n (λ h. omega arith) (λ h. omega arith)

module _ (t : List ℕ) (e : check t ≡ sound) where
  -- below the last level there is none
  pub last_none : (f : ℕ → Bool) (k j : ℕ) → 3 ≤ k → inner_from f t k j ≡ 0
  last_none f k j h =
      ⊎_elim (λ (l : records t ≤ j). from_end f t k j l)
      (λ (l : j < records t). from_stop f t k j (let b = ((sound_table t e).at j l).level-le in omega arith))
      (le-or-lt (records t) j)

  -- tests that agree on the inner sets count the same
  pub run_same : (f g : ℕ → Bool) (k : ℕ) → ((j : ℕ) → j < records t → level t j ≡ suc k → f j ≡ g j) → (n r : ℕ) → r + n ≤ records t → inner_run f t k n r ≡ inner_run g t k n r
  unfolding inner_run
  run_same f g k w zero r l = refl
  run_same f g k w (suc n) r l =
      ap₂ (λ (b : Bool) (m : ℕ). elim (leb (level t r) k) [ true ↦ 0 | false ↦ bump b m ]) both (run_same f g k w n (suc r) (omega arith))
    where
      both : (eqb (level t r) (suc k) && f r) ≡ (eqb (level t r) (suc k) && g r)
      both =
          ⊎_elim
          (λ (p : eqb (level t r) (suc k) ≡ true). ap (λ (b : Bool). eqb (level t r) (suc k) && b) (w r (omega arith) (eqb-true (level t r) (suc k) p)))
          (λ p. and_left_fails (eqb (level t r) (suc k)) (f r) p ∙ sym (and_left_fails (eqb (level t r) (suc k)) (g r) p))
          (either (eqb (level t r) (suc k)))

  module _ (u : ℕ) where
    -- one level more than there are alters nothing
    pub levels_more : (n r : ℕ) → r < records t → 3 ≤ n + level t r → satisfies n t u r ≡ satisfies (suc n) t u r
    levels_more zero r l h =
        judged_last t u r
        ∙ ap (suffice t r) (sym (add-zero (size 64 (members t r ∩ u))))
        ∙ ap (λ (k : ℕ). suffice t r (size 64 (members t r ∩ u) + k)) (sym (last_none (λ j. satisfies (1 - 1) t u j) (level t r) (r + 1) (omega arith)))
        ∙ sym (judged_more 1 t u r e l (omega arith))
    levels_more (suc n) r l h = more (λ j l' h'. levels_more n j l' h')
      where
        more : ((j : ℕ) → j < records t → 3 ≤ n + level t j → satisfies n t u j ≡ satisfies (suc n) t u j) → satisfies (suc n) t u r ≡ satisfies (suc (suc n)) t u r
        more ih =
            let a : suc n - 1 ≡ n = sub-one (suc n) in
            let b : suc (suc n) - 1 ≡ suc n = sub-one (suc (suc n)) in
            judged_more (suc n) t u r e l (omega arith)
            ∙ ap (λ (k : ℕ). suffice t r (size 64 (members t r ∩ u) + k))
            (run_same (λ j. satisfies (suc n - 1) t u j) (λ j. satisfies (suc (suc n) - 1) t u j) (level t r)
            (λ j l' q.
            ap (λ (m : ℕ). satisfies m t u j) a ∙ ih j l' (omega arith) ∙ ap (λ (m : ℕ). satisfies m t u j) (sym b))
            (records t - (r + 1)) (r + 1) (omega arith))
            ∙ sym (judged_more (suc (suc n)) t u r e l (omega arith))

    -- U satisfies a quorum set that is known when the members in U, plus the direct inner sets that U satisfies, number at least the threshold.
    pub judged : (r : ℕ) → r < records t → holds t u r ≡ suffice t r (size 64 (members t r ∩ u) + length (keep (holds t u) (inner_sets t r)))
    unfolding satisfies
    judged r l = levels_more 3 r l (omega arith)

    -- the same as a walk meets it, which starts at a record that waits for somebody
    pub judged_walk : (r : ℕ) → r < records t → 0 < threshold t r → holds t u r ≡ leb (lack t u r) (still t u (level t r) (r + 1))
    judged_walk r l h =
        judged r l
        ∙ ap (λ (k : ℕ). suffice t r (size 64 (members t r ∩ u) + k)) (inner_from_lem t r (λ j l'. ((sound_table t e).at j l').in_step) (holds t u) l)
        ∙ waiting-suffice t r h (size 64 (members t r ∩ u) + still t u (level t r) (r + 1))
        ∙ leb-left (threshold t r) (size 64 (members t r ∩ u)) (still t u (level t r) (r + 1))

    -- Where nothing is wanting, u satisfies it if it has some member; with none, the threshold is 0, which is an unknown archive's.
    pub judged_members : (r : ℕ) → r < records t → lack t u r ≡ 0 → not (eqb (members t r ∩ u) 0) ≡ holds t u r
    judged_members r l none = go (eqb (members t r ∩ u) 0) refl
      where
        go : (b : Bool) → eqb (members t r ∩ u) 0 ≡ b → not b ≡ holds t u r
        go true q =
            let nobody_in : size 64 (members t r ∩ u) ≡ 0 = ap (size 64) (eqb-true (members t r ∩ u) 0 q) ∙ size-nobody 64 in
            let zero : threshold t r ≡ 0 = omega arith in
            sym (judged r l
            ∙ unknown_never t r (((sound_table t e).at r l).zero-unknown zero) (size 64 (members t r ∩ u) + length (keep (holds t u) (inner_sets t r))))
        go false q =
            sym (judged_walk r l (member_known t e r u l (eqb-false (members t r ∩ u) 0 q))
            ∙ le-leb (lack t u r) (still t u (level t r) (r + 1)) (omega arith))

    -- Without a member in u the whole threshold is wanting, so that where nothing is, the archive is unknown. Without inner sets to come either, u does not
    -- satisfy it.
    pub wanting : (r : ℕ) → 0 < threshold t r → (lack t u r ≡ 0 → members t r ∩ u ≡ 0) → 0 < lack t u r
    wanting r h f =
        ⊎_elim (λ (z : lack t u r ≤ 0). let n = ap (size 64) (f (omega arith)) ∙ size-nobody 64 in absurd (omega arith)) (λ p. p) (le-or-lt (lack t u r) 0)

    pub judged_flat : (r : ℕ) → r < records t → still t u (level t r) (r + 1) ≡ 0 → (lack t u r ≡ 0 → members t r ∩ u ≡ 0) → holds t u r ≡ false
    judged_flat r l flat f =
        ⊎_elim
        (λ (z : threshold t r ≤ 0).
        judged r l
        ∙ unknown_never t r (((sound_table t e).at r l).zero-unknown (omega arith)) (size 64 (members t r ∩ u) + length (keep (holds t u) (inner_sets t r))))
        (λ (h : 0 < threshold t r). judged_walk r l h ∙ ap (leb (lack t u r)) flat ∙ lt-leb (lack t u r) 0 (wanting r h f))
        (le-or-lt (threshold t r) 0)
