-- When so many entries are enough for a record. A record whose set is known goes by its threshold; for an unknown archive none are enough.
-- In a sound table the threshold tells the two apart: it is 0 for an unknown archive alone.
use mathlib.Core.Path.{◌≡◌, refl, sym, ap, ap₂, ◌∙◌}
use mathlib.Core.Bool.{Bool, true, false, not, ◌&&◌}
use mathlib.Core.List.{List}
use mathlib.Core.Logic.{⊎_elim}
use Prim.Native.Nat.{ℕ, suc, ◌+◌, ◌<◌, ◌≤◌}
use native.Mathlib.Numerals.{add-one}
use native.Mathlib.Omega.{arith}
use borrow.Author.Tests.{eq-eqb, eqb-true, le-leb, leb-true, ltb-false}
use lib.Bits.{and_zero_l}
use lib.Dec.{leb, eqb}
use Rattle.sets.specs.Sets.{◌∩◌}
use Rattle.sets.proofs.Bools.{and_parts, not-holds, bool_ext}
use Rattle.sets.proofs.Size.{le-or-lt}
use Rattle.meanings.specs.Table.{records, members, threshold, level, unknown, suffice}
use Rattle.meanings.specs.Faults.{check, sound, bad_level}
use Rattle.tables.proofs.Unknown.{unknown_record, threshold_known}
use Rattle.tables.proofs.Runs.{from_hit, inner_count}
use Rattle.tables.proofs.Sound.{sound_table}

module _ (t : List ℕ) (r : ℕ) where
  pub known_suffice : unknown t r ≡ false → (k : ℕ) → suffice t r k ≡ leb (threshold t r) k
  unfolding suffice
  known_suffice e k = ap (λ (b : Bool). not b && leb (threshold t r) k) e

  pub unknown_never : unknown t r ≡ true → (k : ℕ) → suffice t r k ≡ false
  unfolding suffice
  unknown_never e k = ap (λ (b : Bool). not b && leb (threshold t r) k) e

  -- a record that waits for somebody is known
  pub waiting-suffice : 0 < threshold t r → (k : ℕ) → suffice t r k ≡ leb (threshold t r) k
  waiting-suffice h = known_suffice (threshold_known t r h)

  -- more entries are enough where fewer are
  pub suffice_more : (k m : ℕ) → k ≤ m → suffice t r k ≡ true → suffice t r m ≡ true
  unfolding suffice
  suffice_more k m l e =
      let p = and_parts (not (unknown t r)) (leb (threshold t r) k) e in
      let h = leb-true (threshold t r) k p.1 in
      known_suffice (not-holds (unknown t r) p.0) m ∙ le-leb (threshold t r) m (omega arith)

-- ---- of a sound table
module _ (t : List ℕ) (e : check t ≡ sound) where
  pub unknown-zero : (r : ℕ) → r < records t → unknown t r ≡ eqb (threshold t r) 0
  unknown-zero r l =
      bool_ext (unknown t r) (eqb (threshold t r) 0)
      (λ p. eq-eqb (threshold t r) 0 (unknown_record t r p).no-threshold)
      (λ p. ((sound_table t e).at r l).zero-unknown (eqb-true (threshold t r) 0 p))

  -- for records with the same threshold the same is enough
  pub same_suffice : (a b : ℕ) → a < records t → b < records t → threshold t a ≡ threshold t b → (k : ℕ) → suffice t a k ≡ suffice t b k
  unfolding suffice
  same_suffice a b l l' q k =
      ap₂ (λ (x : Bool) (y : ℕ). not x && leb y k) (unknown-zero a l ∙ ap (λ (y : ℕ). eqb y 0) q ∙ sym (unknown-zero b l')) q

  -- who names a member is known, and so is who has an inner set
  pub member_known : (r u : ℕ) → r < records t → ¬ (members t r ∩ u ≡ 0) → 0 < threshold t r
  member_known r u l h =
      ⊎_elim
      (λ (z : threshold t r ≤ 0).
      let m = (unknown_record t r (((sound_table t e).at r l).zero-unknown (omega arith))).no-members in
      absurd (h (ap (λ (x : ℕ). x ∩ u) m ∙ and_zero_l u)))
      (λ p. p)
      (le-or-lt (threshold t r) 0)

  pub deeper_known : (r : ℕ) → r + 1 < records t → level t r < level t (r + 1) → 0 < threshold t r
  unfolding bad_level
  deeper_known r l d =
      ⊎_elim
      (λ (z : threshold t r ≤ 0).
      let w = unknown_record t r (((sound_table t e).at r (omega arith)).zero-unknown (omega arith)) in
      let step = ltb-false (suc (level t r)) (level t (suc r)) ((sound_table t e).at (suc r) (omega arith)).in_step in
      let same : level t (r + 1) ≡ level t (suc r) = ap (level t) (add-one r) in
      let next : level t (r + 1) ≡ suc (level t r) = omega arith in
      let some = from_hit (λ j. true) t (level t r) (r + 1) l d next refl in
      let all = inner_count t r (λ j l'. ((sound_table t e).at j l').in_step) (omega arith) in
      let none = w.no_inner in
      absurd (omega arith))
      (λ p. p)
      (le-or-lt (threshold t r) 0)
