-- What a table that checking finds sound is known to be: no record meets a fault, read off record by record. Nodes are counted
-- along: a 65th head would be a fault, and the first record is a head.
use mathlib.Core.Path.{◌≡◌, refl, ap, ap₂, ◌∙◌, subst}
use mathlib.Core.Bool.{Bool, true, false, not, ◌||◌}
use mathlib.Core.Logic.{⊎_elim}
use mathlib.Core.List.{List, [], ◌∷◌}
use Prim.Native.Nat.{ℕ, zero, suc, ◌+◌, ◌*◌, ◌%◌, ◌^◌, ◌≤◌, ◌<◌}
use native.Mathlib.Numerals.{add-one}
use native.Mathlib.Omega.{arith}
use borrow.Author.Tests.{eq-eqb, ne_eqb, eqb-true, eqb-false, ltb-false, leb-false}
use lib.Dec.{ltb, eqb}
use lib.ListN.{length}
use Rattle.sets.specs.Sets.{everyone, within}
use Rattle.sets.specs.Lists.{from}
use Rattle.sets.proofs.Bools.{clash, or_fails, and_fails, not_fails}
use Rattle.sets.proofs.Size.{le-or-lt}
use Rattle.sets.proofs.Members.{everyone-lt, within-lt}
use Rattle.meanings.specs.Table.{records, control, threshold, level, members, nodes, entries, unknown}
use Rattle.meanings.specs.Faults.{Check, sound, fault, or_else, fault_if, first_fault, bad_count, bad_control, bad_level, surplus, no_threshold, strangers, too_high, shape_fault, line_fault, entry_fault, check_by, check, check_lines}
use Rattle.tables.specs.Heads.{heads_before}
use Rattle.tables.proofs.Unknown.{unknown_record}
use Rattle.tables.proofs.Heads.{before_first, before-all, inner_step, step_le, head_node}

-- ---- a check that finds nothing
pub or_sound : (a b : Check) → or_else a b ≡ sound → (a ≡ sound) × (b ≡ sound)
or_sound sound b e = (refl, e)
or_sound (fault k p) b e = let z : fault k p ≡ sound = e in (cc, cc)

or_nothing : (c : Check) → or_else c sound ≡ c
or_nothing sound = refl
or_nothing (fault k p) = refl

pub if_sound : (b : Bool) (k p : ℕ) → fault_if b k p ≡ sound → b ≡ false
if_sound true k p e = let z : fault k p ≡ sound = e in cc
if_sound false k p e = refl

pub first_sound : (f : ℕ → Check) (a n : ℕ) → first_fault f (from a n) ≡ sound → (r : ℕ) → a ≤ r → r < a + n → f r ≡ sound
unfolding first_fault from
first_sound f a zero e r h l = absurd (omega arith)
first_sound f a (suc n) e r h l =
    ⊎_elim (λ (q : r ≤ a). let d : a ≡ r = omega arith in subst (λ (k : ℕ). f k ≡ sound) d parts.0)
    (λ q. first_sound f (suc a) n parts.1 r q (omega arith))
    (le-or-lt r a)
  where
    parts : (f a ≡ sound) × (first_fault f (from (suc a) n) ≡ sound)
    parts = or_sound (f a) (first_fault f (from (suc a) n)) e

all_sound : (f : ℕ → Check) (a n : ℕ) → ((r : ℕ) → a ≤ r → r < a + n → f r ≡ sound) → first_fault f (from a n) ≡ sound
unfolding first_fault from
all_sound f a zero h = refl
all_sound f a (suc n) h =
    ap (λ (c : Check). or_else c (first_fault f (from (suc a) n))) (h a (omega arith) (omega arith))
    ∙ all_sound f (suc a) n (λ r p q. h r (omega arith) (omega arith))

same_faults : (f g : ℕ → Check) → ((r : ℕ) → f r ≡ g r) → (l : List ℕ) → first_fault f l ≡ first_fault g l
unfolding first_fault
same_faults f g h [] = refl
same_faults f g h (r ∷ l) = ap₂ or_else (h r) (same_faults f g h l)

-- both words of a record lie in the table
pub record_in : (t : List ℕ) (r : ℕ) → r < records t → 2 * r + 1 < length t
unfolding records
record_in t r l = omega arith

-- ---- what a sound table is known to be
pub record SoundRecord (t : List ℕ) (r : ℕ) : Type 0 where
  pub control-lt : control t r < 1024
  pub level-le : level t r ≤ 3
  pub in_step : bad_level t r ≡ false
  pub zero-unknown : threshold t r ≡ 0 → unknown t r ≡ true
  pub inner_pos : 0 < level t r → 0 < threshold t r
  pub members_in : within (members t r) (everyone (nodes t)) ≡ true
  pub members-lt : members t r < 2 ^ nodes t
  pub threshold-le : threshold t r ≤ entries t r

pub record SoundTable (t : List ℕ) : Type 0 where
  pub even : length t % 2 ≡ 0
  pub has_record : 0 < records t
  pub records-le : records t ≤ 256
  pub has_node : 0 < nodes t
  pub nodes-le : nodes t ≤ 64
  pub at : (r : ℕ) → r < records t → SoundRecord t r

check_parts : (b : Bool) (x y : Check) → elim b [ true ↦ fault 1 0 | false ↦ or_else x y ] ≡ sound → (b ≡ false) × (x ≡ sound) × (y ≡ sound)
check_parts true x y e = let z : fault 1 0 ≡ sound = e in (cc, cc, cc)
check_parts false x y e = let p = or_sound x y e in (refl, p.0, p.1)

-- no record meets one of 2 to 5, so nodes are counted up to 64
module _ (t : List ℕ) where
  abbrev Shaped : ℕ → Type 0
  Shaped r = (bad_control t r ≡ false) × (bad_level t r ≡ false) × (surplus t r ≡ false) × (no_threshold t r ≡ false)

  shaped : (r : ℕ) → shape_fault t r ≡ sound → Shaped r
  unfolding shape_fault
  shaped r e =
      let c2 = fault_if (bad_control t r) 2 (suc r) in
      let c3 = fault_if (bad_level t r) 3 (suc r) in
      let c4 = fault_if (surplus t r) 4 (suc r) in
      let c5 = fault_if (no_threshold t r) 5 (suc r) in
      let p2 = or_sound c2 (or_else c3 (or_else c4 c5)) e in
      let p3 = or_sound c3 (or_else c4 c5) p2.1 in
      let p4 = or_sound c4 c5 p3.1 in (
        if_sound (bad_control t r) 2 (suc r) p2.0,
        if_sound (bad_level t r) 3 (suc r) p3.0,
        if_sound (surplus t r) 4 (suc r) p4.0,
        if_sound (no_threshold t r) 5 (suc r) p4.1,
      )

  -- a head that is no 65th comes after fewer than 64
  pub room_for : (r : ℕ) → surplus t r ≡ false → heads_before t r ≤ 64 → heads_before t (suc r) ≤ 64
  unfolding surplus
  room_for r e h =
      ⊎_elim
      (λ p. let s : heads_before t (suc r) ≡ heads_before t r = rw add-one at (inner_step t r (eqb-false (level t r) 0 p)) in omega arith)
      (λ p. let q = eqb-false (heads_before t r) 64 p in let s = step_le t r in omega arith)
      (and_fails (eqb (level t r) 0) (eqb (heads_before t r) 64) e)

  heads-le : (n : ℕ) → ((r : ℕ) → r < n → surplus t r ≡ false) → heads_before t n ≤ 64
  heads-le zero f = let e = before_first t in omega arith
  heads-le (suc n) f = room_for n (f n (omega arith)) (heads-le n (λ r l. f r (omega arith)))

  -- the first record opens node 0
  first_head : bad_level t 0 ≡ false → level t 0 ≡ 0
  unfolding bad_level
  first_head e = eqb-true (level t 0) 0 (not_fails (eqb (level t 0) 0) e)

  counted : bad_count t ≡ false → (length t % 2 ≡ 0) × (0 < records t) × (records t ≤ 256)
  unfolding bad_count
  counted e =
      let p = or_fails (eqb (length t % 2) 1 || eqb (records t) 0) (ltb 256 (records t)) e in
      let q = or_fails (eqb (length t % 2) 1) (eqb (records t) 0) p.0 in
      let a = eqb-false (length t % 2) 1 q.0 in
      let b = eqb-false (records t) 0 q.1 in
      let c = ltb-false 256 (records t) p.1 in
      (omega arith, omega arith, c)

  entered : (r : ℕ) → entry_fault t r ≡ sound → (strangers t r ≡ false) × (too_high t r ≡ false)
  unfolding entry_fault
  entered r e =
      let p = or_sound (fault_if (strangers t r) 6 (suc r)) (fault_if (too_high t r) 7 (suc r)) e in
      (if_sound (strangers t r) 6 (suc r) p.0, if_sound (too_high t r) 7 (suc r) p.1)

  low_level : (r : ℕ) → control t r < 1024 → level t r ≤ 3
  unfolding level
  low_level r h = omega arith

  -- Where a record meets no 5, a threshold of 0 is that of an unknown archive, whose record opens a node.
  zero_is_unknown : (r : ℕ) → no_threshold t r ≡ false → threshold t r ≡ 0 → unknown t r ≡ true
  unfolding no_threshold
  zero_is_unknown r e z =
      ⊎_elim (λ (p : eqb (threshold t r) 0 ≡ false). clash (eqb (threshold t r) 0) (eq-eqb (threshold t r) 0 z) p)
      (λ p. not_fails (unknown t r) p)
      (and_fails (eqb (threshold t r) 0) (not (unknown t r)) e)

  inner_has_threshold : (r : ℕ) → no_threshold t r ≡ false → 0 < level t r → 0 < threshold t r
  inner_has_threshold r e h =
      ⊎_elim (λ (z : threshold t r ≤ 0). let d = (unknown_record t r (zero_is_unknown r e (omega arith))).head in absurd (omega arith))
      (λ p. p)
      (le-or-lt (threshold t r) 0)

  -- a record that meets no fault
  sound_record : (r : ℕ) → Shaped r → (strangers t r ≡ false) × (too_high t r ≡ false) → SoundRecord t r
  unfolding bad_control strangers too_high
  sound_record r s f =
      let c = leb-false 1024 (control t r) s.0 in
      let w = not_fails (within (members t r) (everyone (nodes t))) f.0 in
      record {
        control-lt = c;
        level-le = low_level r c;
        in_step = s.1;
        zero-unknown = zero_is_unknown r s.3;
        inner_pos = λ h. inner_has_threshold r s.3 h;
        members_in = w;
        members-lt = within-lt (nodes t) (members t r) (everyone (nodes t)) (everyone-lt (nodes t)) w;
        threshold-le = ltb-false (entries t r) (threshold t r) f.1;
      }

-- ---- no record meets any of 2 to 5
module _ (t : List ℕ) (e : (r : ℕ) → r < records t → shape_fault t r ≡ sound) where
  shapes : (r : ℕ) → r < records t → Shaped t r
  shapes r l = shaped t r (e r l)

  -- levels are in step
  pub shapes_in_step : (r : ℕ) → r < records t → bad_level t r ≡ false
  shapes_in_step r l = (shapes r l).1

  pub shapes_nodes : nodes t ≤ 64
  shapes_nodes = subst (λ (m : ℕ). m ≤ 64) (before-all t) (heads-le t (records t) (λ r l. (shapes r l).2))

-- the three parts of a check that finds nothing
module _ (f : ℕ → Check) (t : List ℕ) where
  passes : check_by f t ≡ sound → (bad_count t ≡ false) × (first_fault f (from 0 (records t)) ≡ sound) × (first_fault (entry_fault t) (from 0 (records t)) ≡ sound)
  unfolding check_by
  passes e = check_parts (bad_count t) (first_fault f (from 0 (records t))) (first_fault (entry_fault t) (from 0 (records t))) e

  sound_by : bad_count t ≡ false → first_fault f (from 0 (records t)) ≡ sound → first_fault (entry_fault t) (from 0 (records t)) ≡ sound → check_by f t ≡ sound
  unfolding check_by
  sound_by a b c = rw (check_by, a, b, c)

pub sound_table : (t : List ℕ) → check t ≡ sound → SoundTable t
unfolding check
sound_table t e =
    let p = passes (shape_fault t) t e in
    let k = counted t p.0 in
    let w : (r : ℕ) → r < records t → shape_fault t r ≡ sound = λ r l. first_sound (shape_fault t) 0 (records t) p.1 r (omega arith) (omega arith) in
    let s = shapes t w in
    let f : (r : ℕ) → r < records t → (strangers t r ≡ false) × (too_high t r ≡ false) =
    λ r l. entered t r (first_sound (entry_fault t) 0 (records t) p.2 r (omega arith) (omega arith)) in
    let h = head_node t 0 k.1 (first_head t (s 0 k.1).1) in
    record {
      even = k.0;
      has_record = k.1;
      records-le = k.2;
      has_node = omega arith;
      nodes-le = shapes_nodes t w;
      at = λ r l. sound_record t r (s r l) (f r l);
    }

-- the number of a node goes into a word's bits
pub node_lt : (t : List ℕ) → check t ≡ sound → (v : ℕ) → v < nodes t → v < 64
node_lt t e v l = let few = (sound_table t e).nodes-le in omega arith

-- ---- the records of a sheet's lines: a written 0 is a fault more, at its record alone
module _ (t : List ℕ) where
  none_written : (r : ℕ) → line_fault 0 t r ≡ shape_fault t r
  unfolding line_fault
  none_written r = ap (λ (b : Bool). or_else (shape_fault t r) (fault_if b 5 (suc r))) (ne_eqb (suc r) 0 (λ e. omega arith)) ∙ or_nothing (shape_fault t r)

  pub lines_zero : check_lines 0 t ≡ check t
  unfolding check_lines check check_by
  lines_zero =
      ap (λ (c : Check). elim (bad_count t) [ true ↦ fault 1 0 | false ↦ or_else c (first_fault (entry_fault t) (from 0 (records t))) ])
      (same_faults (line_fault 0 t) (shape_fault t) none_written (from 0 (records t)))

  module _ (nought : ℕ) where
    line_parts : first_fault (line_fault nought t) (from 0 (records t)) ≡ sound → (r : ℕ) → r < records t → (shape_fault t r ≡ sound) × (fault_if (eqb (suc r) nought) 5 (suc r) ≡ sound)
    unfolding line_fault
    line_parts e r l =
        or_sound (shape_fault t r) (fault_if (eqb (suc r) nought) 5 (suc r)) (first_sound (line_fault nought t) 0 (records t) e r (omega arith) (omega arith))

    pub lines_shaped : first_fault (line_fault nought t) (from 0 (records t)) ≡ sound → (r : ℕ) → r < records t → shape_fault t r ≡ sound
    lines_shaped e r l = (line_parts e r l).0

    pub lines_sound : check_lines nought t ≡ sound → check t ≡ sound
    unfolding check_lines check
    lines_sound e =
        let p = passes (line_fault nought t) t e in
        sound_by (shape_fault t) t p.0 (all_sound (shape_fault t) 0 (records t) (λ r h l. lines_shaped p.1 r (omega arith))) p.2

    pub lines_none : check_lines nought t ≡ sound → (r : ℕ) → r < records t → ¬ (suc r ≡ nought)
    unfolding check_lines
    lines_none e r l d =
        let p = (line_parts (passes (line_fault nought t) t e).1 r l).1 in
        clash (eqb (suc r) nought) (eq-eqb (suc r) nought d) (if_sound (eqb (suc r) nought) 5 (suc r) p)
