-- The steps of a walk that looks for the first fault. At a record with one, the answer there is the answer of the whole walk; past
-- a record with none, the walk from the next record on decides.
use mathlib.Core.Path.{◌≡◌, refl, sym, ap, ap₂, ◌∙◌, subst}
use mathlib.Core.Bool.{Bool, true, false, not, ◌||◌}
use mathlib.Core.List.{List, [], ◌∷◌}
use Prim.Native.Nat.{ℕ, zero, suc, ◌+◌, ◌-◌, ◌/◌, ◌%◌, ◌^◌, ◌≤◌, ◌<◌}
use native.Mathlib.Nat.{div-eq_of_lt, div-lt_iff_lt-mul, one-mul}
use native.Mathlib.Numerals.{add-one}
use native.Mathlib.Omega.{arith}
use borrow.Author.Tests.{le-leb, lt-leb, lt-ltb, le-ltb, eq-eqb, ne_eqb, eqb-true}
use lib.Dec.{ltb, eqb}
use lib.ListN.{length}
use lib.Count.{ones}
use lib.Pow.{pow_pos}
use Rattle.sets.specs.Sets.{everyone, within}
use Rattle.sets.specs.Lists.{from}
use Rattle.sets.proofs.Bools.{or_left, or_right, and_both, and_left_fails, and_right_fails, bool_ext, fails}
use Rattle.sets.proofs.Members.{everyone-lt, everyone-all, within-lt, sub_within}
use Rattle.sets.proofs.Size.{ones_size, size-le}
use Rattle.meanings.specs.Table.{records, control, threshold, level, members, nodes, inner_sets, entries, unknown}
use Rattle.meanings.specs.Faults.{Check, sound, fault, or_else, fault_if, first_fault, bad_count, bad_control, bad_level, surplus, no_threshold, strangers, too_high, shape_fault, line_fault, entry_fault, check_by, check_lines}
use Rattle.meanings.specs.Replies.{Reply, reply, ◌is◌, Place}
use Rattle.meanings.specs.Questions.{on_check}
use Rattle.answers.specs.declared.Fault.{Fault}
use Rattle.answers.specs.declared.Fault.TheVariants as Fx
use Rattle.answers.specs.Said.{fault_says}
use Rattle.tables.specs.Heads.{heads_before}
use Rattle.tables.proofs.Runs.{inner_from, inner_count}
use Rattle.tables.proofs.Unknown.{UnknownRecord, unknown_record, record_unknown}
use Rattle.tables.proofs.Sound.{shapes_in_step}
use Rattle.faults.specs.Walk.{highest, lines_from, entries_from, Shapely, Tells}

-- ---- the first fault, from a record on
module _ (f : ℕ → Check) (t : List ℕ) where
  abbrev pub faults_from : ℕ → Check
  faults_from r = first_fault f (from r (records t - r))

  pub first_at : (r : ℕ) → r < records t → faults_from r ≡ or_else (f r) (faults_from (r + 1))
  unfolding first_fault from
  first_at r l =
      let e : records t - r ≡ suc (records t - (r + 1)) = omega arith in
      ap (λ (n : ℕ). first_fault f (from r n)) e
      ∙ ap (λ (k : ℕ). or_else (f r) (first_fault f (from k (records t - (r + 1))))) (sym (add-one r))

  pub first_end : (r : ℕ) → records t ≤ r → faults_from r ≡ sound
  unfolding first_fault from
  first_end r h = let e : records t - r ≡ 0 = omega arith in rw e

  pub first_pass : (r : ℕ) → r < records t → f r ≡ sound → faults_from r ≡ faults_from (r + 1)
  first_pass r l e = first_at r l ∙ ap (λ (c : Check). or_else c (faults_from (r + 1))) e

-- ---- a fault tells what checking has come to, and so what any check comes to that begins so
pub fault_number : (f : Fault) → 0 < (fault_says f).number
fault_number (Fx.Count p) = omega arith
fault_number (Fx.Control p) = omega arith
fault_number (Fx.Level p) = omega arith
fault_number (Fx.Nodes p) = omega arith
fault_number (Fx.Threshold p) = omega arith
fault_number (Fx.Member p) = omega arith
fault_number (Fx.Entries p) = omega arith

pub tells_on : (f : Fault) (c d : Check) → Tells c f → Tells (or_else c d) f
tells_on f sound d h x =
    let z : (fault_says f).number ≡ 0 = ap (λ (y : Reply). y.number) (h (reply 0 [])) in
    let p = fault_number f in
    absurd (omega arith)
tells_on f (fault y p) d h x = h x

pub tells_for : (f : Fault) (c d : Check) → d ≡ c → Tells c f → Tells d f
tells_for f c d e h x = h x ∙ ap (λ (y : Check). on_check y x) (sym e)

pub told : {c : Check} {k p : ℕ} → c ≡ fault k p → (x : Reply) → reply k (Place is p ∷ []) ≡ on_check c x
told e x = ap (λ (y : Check). on_check y x) (sym e)

-- ---- a walk from the first record on, as far as record r: where a fault is told there, where it goes on, and where it ends; `all` is what it looks for
module _ (f : ℕ → Check) (t : List ℕ) (all : Check) (r : ℕ) (from_here : all ≡ faults_from f t r) where
  pub walk_stops : r < records t → (b : Fault) → Tells (f r) b → Tells all b
  walk_stops l b h = tells_for b (or_else (f r) (faults_from f t (r + 1))) all (from_here ∙ first_at f t r l) (tells_on b (f r) (faults_from f t (r + 1)) h)

  pub walk_goes : r < records t → f r ≡ sound → all ≡ faults_from f t (r + 1)
  walk_goes l e = from_here ∙ first_pass f t r l e

  pub walk_ends : records t ≤ r → all ≡ sound
  walk_ends l = from_here ∙ first_end f t r l

-- ---- the whole check: 1, then the first pass, then the second
module _ (nought : ℕ) (t : List ℕ) where
  pub count_first : bad_count t ≡ true → check_lines nought t ≡ fault 1 0
  unfolding check_lines check_by
  count_first e = rw (check_by, e)

  pub then_passes : bad_count t ≡ false → check_lines nought t ≡ or_else (lines_from nought t 0 (records t)) (entries_from t 0 (records t))
  unfolding check_lines check_by
  then_passes e = rw (check_by, e)

-- ---- what one record meets, by the tests in order; places count from 1
module _ (t : List ℕ) (r : ℕ) where
  pub meets_2 : bad_control t r ≡ true → shape_fault t r ≡ fault 2 (r + 1)
  unfolding shape_fault
  meets_2 e = rw (shape_fault, e, add-one)

  module _ (e2 : bad_control t r ≡ false) where
    pub meets_3 : bad_level t r ≡ true → shape_fault t r ≡ fault 3 (r + 1)
    unfolding shape_fault
    meets_3 e = rw (shape_fault, e2, e, add-one)

    module _ (e3 : bad_level t r ≡ false) where
      pub meets_4 : surplus t r ≡ true → shape_fault t r ≡ fault 4 (r + 1)
      unfolding shape_fault
      meets_4 e = rw (shape_fault, e2, e3, e, add-one)

      module _ (e4 : surplus t r ≡ false) where
        -- past 2 to 4, the test for 5 decides
        pub then_5 : (b : Bool) → no_threshold t r ≡ b → shape_fault t r ≡ fault_if b 5 (r + 1)
        unfolding shape_fault
        then_5 b e = rw (shape_fault, e2, e3, e4, e, add-one)

  pub meets_6 : strangers t r ≡ true → entry_fault t r ≡ fault 6 (r + 1)
  unfolding entry_fault
  meets_6 e = rw (entry_fault, e, add-one)

  -- the record of a line that meets none of 2 to 5: a written 0, and any other
  module _ (nought : ℕ) (e : shape_fault t r ≡ sound) where
    written : (b : Bool) → eqb (suc r) nought ≡ b → line_fault nought t r ≡ fault_if b 5 (r + 1)
    unfolding line_fault
    written b d = rw (line_fault, e, d, add-one)

    pub written-zero : r + 1 ≡ nought → line_fault nought t r ≡ fault 5 (r + 1)
    written-zero d = written true (eq-eqb (suc r) nought (omega arith))

    pub none_written : ¬ (r + 1 ≡ nought) → line_fault nought t r ≡ sound
    none_written d = written false (ne_eqb (suc r) nought (λ q. d (omega arith)))

  module _ (e6 : strangers t r ≡ false) where
    pub meets_7 : too_high t r ≡ true → entry_fault t r ≡ fault 7 (r + 1)
    unfolding entry_fault
    meets_7 e = rw (entry_fault, e6, e, add-one)

    pub well_entered : too_high t r ≡ false → entry_fault t r ≡ sound
    unfolding entry_fault
    well_entered e = rw (entry_fault, e6, e)

-- ---- the tests, from what the code compares
pub ones_le : (m : ℕ) → m < 2 ^ 64 → ones m ≤ 64
ones_le m h = let e = ones_size 64 m h in let l = size-le 64 m in omega arith

module _ (t : List ℕ) where
  pub odd_count : length t % 2 ≡ 1 → true ≡ bad_count t
  unfolding bad_count
  odd_count e = rw (bad_count, eq-eqb (length t % 2) 1 e)

  pub no_record : length t / 2 ≡ 0 → true ≡ bad_count t
  unfolding bad_count records
  no_record e =
      sym (or_left (eqb (length t % 2) 1 || eqb (records t) 0) (ltb 256 (records t)) (or_right (eqb (length t % 2) 1) (eqb (records t) 0) (eq-eqb (records t) 0 e)))

  pub over_count : ¬ (length t % 2 ≡ 1) → ¬ (length t / 2 ≡ 0) → ltb 256 (length t / 2) ≡ bad_count t
  unfolding bad_count records
  over_count e f = rw (bad_count, ne_eqb (length t % 2) 1 e, ne_eqb (length t / 2) 0 f)

pub highest_first : (t : List ℕ) (r : ℕ) → r ≡ 0 → 0 ≡ highest t r
unfolding highest
highest_first t r e = rw e

pub highest_next : (t : List ℕ) (r : ℕ) → ¬ (r ≡ 0) → level t (r - 1) + 1 ≡ highest t r
unfolding highest
highest_next t zero h = absurd (h refl)
highest_next t (suc r) h = let e : suc r - 1 ≡ r = omega arith in rw (e, add-one)

pub high_level : (t : List ℕ) (r : ℕ) → highest t r < level t r → bad_level t r ≡ true
unfolding bad_level highest
high_level t zero h = ap not (ne_eqb (level t 0) 0 (λ e. omega arith))
high_level t (suc r) h = lt-ltb (suc (level t r)) (level t (suc r)) h

pub fit_level : (t : List ℕ) (r : ℕ) → level t r ≤ highest t r → bad_level t r ≡ false
unfolding bad_level highest
fit_level t zero h = ap not (eq-eqb (level t 0) 0 (omega arith))
fit_level t (suc r) h = le-ltb (suc (level t r)) (level t (suc r)) h

module _ (t : List ℕ) (r : ℕ) where
  pub high_control : 1024 ≤ control t r → bad_control t r ≡ true
  unfolding bad_control
  high_control h = le-leb 1024 (control t r) h

  pub fit_control : control t r < 1024 → bad_control t r ≡ false
  unfolding bad_control
  fit_control h = lt-leb 1024 (control t r) h

  pub one_too_many : level t r ≡ 0 → heads_before t r ≡ 64 → surplus t r ≡ true
  unfolding surplus
  one_too_many e f = and_both (eqb (level t r) 0) (eqb (heads_before t r) 64) (eq-eqb (level t r) 0 e) (eq-eqb (heads_before t r) 64 f)

  pub no_head : ¬ (level t r ≡ 0) → surplus t r ≡ false
  unfolding surplus
  no_head e = and_left_fails (eqb (level t r) 0) (eqb (heads_before t r) 64) (ne_eqb (level t r) 0 e)

  pub room-left : ¬ (heads_before t r ≡ 64) → surplus t r ≡ false
  unfolding surplus
  room-left e = and_right_fails (eqb (level t r) 0) (eqb (heads_before t r) 64) (ne_eqb (heads_before t r) 64 e)

  -- threshold 0, by the tests in order: a record above level 0, one with members, one with inner sets, and an unknown archive
  pub some-threshold : ¬ (threshold t r ≡ 0) → no_threshold t r ≡ false
  unfolding no_threshold
  some-threshold e = and_left_fails (eqb (threshold t r) 0) (not (unknown t r)) (ne_eqb (threshold t r) 0 e)

  module _ (e5 : threshold t r ≡ 0) where
    not-unknown : (UnknownRecord t r → ⊥) → no_threshold t r ≡ true
    unfolding no_threshold
    not-unknown f =
        and_both (eqb (threshold t r) 0) (not (unknown t r)) (eq-eqb (threshold t r) 0 e5) (ap not (fails (unknown t r) (λ e. f (unknown_record t r e))))

    pub deep-zero : ¬ (level t r ≡ 0) → no_threshold t r ≡ true
    deep-zero h = not-unknown (λ u. h u.head)

    pub members-zero : ¬ (members t r ≡ 0) → no_threshold t r ≡ true
    members-zero h = not-unknown (λ u. h u.no-members)

    pub inner_zero : ¬ (length (inner_sets t r) ≡ 0) → no_threshold t r ≡ true
    inner_zero h = not-unknown (λ u. h u.no_inner)

    pub unknown_fits : level t r ≡ 0 → members t r ≡ 0 → length (inner_sets t r) ≡ 0 → no_threshold t r ≡ false
    unfolding no_threshold
    unknown_fits a b c =
        and_right_fails (eqb (threshold t r) 0) (not (unknown t r))
        (ap not (record_unknown t r (record { no-threshold = e5; head = a; no-members = b; no_inner = c })))

  pub strangers_are : (m n : ℕ) → m ≡ members t r → n ≡ nodes t → not (within m (everyone n)) ≡ strangers t r
  unfolding strangers
  strangers_are m n e f = ap₂ (λ (a b : ℕ). not (within a (everyone b))) e f

  pub above_entries : entries t r < threshold t r → too_high t r ≡ true
  unfolding too_high
  above_entries h = lt-ltb (entries t r) (threshold t r) h

  pub within-entries : threshold t r ≤ entries t r → too_high t r ≡ false
  unfolding too_high
  within-entries h = le-ltb (entries t r) (threshold t r) h

  -- the entries, as they are counted: the machine's count of the members, and the run of inner sets
  pub entries_run : Shapely t → r < records t → members t r < 2 ^ 64 → ones (members t r) + inner_from (λ j. true) t (level t r) (r + 1) ≡ entries t r
  unfolding entries
  entries_run s l h = ap₂ (λ (a b : ℕ). a + b) (ones_size 64 (members t r) h) (sym (inner_count t r (shapes_in_step t s) l))

-- a set lies within the first n nodes where nothing is left of it n places up
pub within_shift : (m n : ℕ) → within m (everyone n) ≡ eqb (m / 2 ^ n) 0
within_shift m n = bool_ext (within m (everyone n)) (eqb (m / 2 ^ n) 0) shifted fitting
  where
    shifted : within m (everyone n) ≡ true → eqb (m / 2 ^ n) 0 ≡ true
    shifted e = eq-eqb (m / 2 ^ n) 0 (div-eq_of_lt (within-lt n m (everyone n) (everyone-lt n) e))

    fitting : eqb (m / 2 ^ n) 0 ≡ true → within m (everyone n) ≡ true
    fitting e =
        let h : m / 2 ^ n < 1 = omega (arith, eqb-true (m / 2 ^ n) 0 e) in
        let l : m < 2 ^ n = subst (λ (k : ℕ). m < k) (one-mul (2 ^ n)) ((div-lt_iff_lt-mul (pow_pos n)).0 h) in
        sub_within n m (everyone n) l (everyone-all n m l)

pub within_all : (m : ℕ) → m < 2 ^ 64 → within m (everyone 64) ≡ true
within_all m h = sub_within 64 m (everyone 64) h (everyone-all 64 m h)
