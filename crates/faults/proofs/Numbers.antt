-- What a reply's number tells. The faults of a table have the numbers 1 to 7 and an argument outside the nodes has 8, so any other number
-- is that of the answer itself, given for a sound table and an argument among its nodes. And of an answer within an allowance only number 9
-- depends on the allowance.
use mathlib.Core.Path.{◌≡◌, refl, sym, ap, ◌∙◌, subst}
use mathlib.Core.Bool.{Bool, true, false}
use mathlib.Core.List.{List, [], ◌∷◌}
use mathlib.Core.Logic.{⊎_elim}
use Prim.Native.Nat.{ℕ, suc, ◌≤◌, ◌<◌}
use native.Mathlib.Omega.{arith}
use borrow.Author.Tests.{le-leb, lt-leb}
use lib.Dec.{eqb}
use Rattle.sets.specs.Lists.{from}
use Rattle.sets.proofs.Size.{le-or-lt}
use Rattle.meanings.specs.Table.{records}
use Rattle.meanings.specs.Faults.{Check, sound, fault, or_else, fault_if, first_fault, bad_count, bad_control, bad_level, surplus, no_threshold, strangers, too_high, shape_fault, line_fault, entry_fault, check_by, check, check_lines}
use Rattle.meanings.specs.Replies.{Reply, reply, ◌is◌, Visits}
use Rattle.meanings.specs.Questions.{on_check, in_nodes, in_allowance}

-- ---- the numbers of a table's faults
abbrev pub Numbered : Check → Type 0
Numbered c = (k p : ℕ) → c ≡ fault k p → (1 ≤ k) × (k ≤ 7)

sound_numbered : Numbered sound
sound_numbered k p e = let z : ◌≡◌ {A = ℕ} 0 1 = cc in absurd (omega arith)

fault_numbered : (n q : ℕ) → (1 ≤ n) × (n ≤ 7) → Numbered (fault n q)
fault_numbered n q h k p e = let z : n ≡ k = cc in subst (λ (m : ℕ). (1 ≤ m) × (m ≤ 7)) z h

or_numbered : (a b : Check) → Numbered a → Numbered b → Numbered (or_else a b)
or_numbered sound b f g = g
or_numbered (fault n q) b f g = f

if_numbered : (b : Bool) (n q : ℕ) → (1 ≤ n) × (n ≤ 7) → Numbered (fault_if b n q)
if_numbered true n q h = fault_numbered n q h
if_numbered false n q h = sound_numbered

first_numbered : (f : ℕ → Check) → ((r : ℕ) → Numbered (f r)) → (l : List ℕ) → Numbered (first_fault f l)
unfolding first_fault
first_numbered f h [] = sound_numbered
first_numbered f h (r ∷ l) = or_numbered (f r) (first_fault f l) (h r) (first_numbered f h l)

module _ (t : List ℕ) where
  shape_numbered : (r : ℕ) → Numbered (shape_fault t r)
  unfolding shape_fault
  shape_numbered r =
      let c2 = fault_if (bad_control t r) 2 (suc r) in
      let c3 = fault_if (bad_level t r) 3 (suc r) in
      let c4 = fault_if (surplus t r) 4 (suc r) in
      let c5 = fault_if (no_threshold t r) 5 (suc r) in
      or_numbered c2 (or_else c3 (or_else c4 c5)) (if_numbered (bad_control t r) 2 (suc r) (omega arith, omega arith))
      (or_numbered c3 (or_else c4 c5) (if_numbered (bad_level t r) 3 (suc r) (omega arith, omega arith))
      (or_numbered c4 c5 (if_numbered (surplus t r) 4 (suc r) (omega arith, omega arith))
      (if_numbered (no_threshold t r) 5 (suc r) (omega arith, omega arith))))

  entry_numbered : (r : ℕ) → Numbered (entry_fault t r)
  unfolding entry_fault
  entry_numbered r =
      or_numbered (fault_if (strangers t r) 6 (suc r)) (fault_if (too_high t r) 7 (suc r))
      (if_numbered (strangers t r) 6 (suc r) (omega arith, omega arith)) (if_numbered (too_high t r) 7 (suc r) (omega arith, omega arith))

  by_count : (b : Bool) (c : Check) → Numbered c → Numbered (elim b [ true ↦ fault 1 0 | false ↦ c ])
  by_count true c h = fault_numbered 1 0 (omega arith, omega arith)
  by_count false c h = h

  by_numbered : (f : ℕ → Check) → ((r : ℕ) → Numbered (f r)) → Numbered (check_by f t)
  unfolding check_by
  by_numbered f h =
      let a = first_fault f (from 0 (records t)) in
      let b = first_fault (entry_fault t) (from 0 (records t)) in
      by_count (bad_count t) (or_else a b) (or_numbered a b (first_numbered f h (from 0 (records t))) (first_numbered (entry_fault t) entry_numbered (from 0 (records t))))

  pub check_numbered : Numbered (check t)
  unfolding check
  check_numbered = by_numbered (shape_fault t) shape_numbered

  line_numbered : (nought r : ℕ) → Numbered (line_fault nought t r)
  unfolding line_fault
  line_numbered nought r =
      or_numbered (shape_fault t r) (fault_if (eqb (suc r) nought) 5 (suc r)) (shape_numbered r)
      (if_numbered (eqb (suc r) nought) 5 (suc r) (omega arith, omega arith))

  pub lines_numbered : (nought : ℕ) → Numbered (check_lines nought t)
  unfolding check_lines
  lines_numbered nought = by_numbered (line_fault nought t) (line_numbered nought)

-- ---- the opening of a reply: the faults of the table, then 8
-- a number that the opening does not give: 0, or 9 and above
abbrev pub Further : ℕ → Type 0
Further k = 1 ≤ k → 9 ≤ k

by_check : (c : Check) (x : Reply) → Numbered c → Further (on_check c x).number → c ≡ sound
by_check sound x w h = refl
by_check (fault k p) x w h =
    let a = w k p refl in
    let b : 9 ≤ k = h a.0 in
    let c = a.1 in
    absurd (omega arith)

by_nodes : (b : Bool) (x : Reply) → Further (in_nodes b x).number → b ≡ true
by_nodes true x h = refl
by_nodes false x h = let a : 9 ≤ 8 = h (omega arith) in absurd (omega arith)

pub table_sound : (t : List ℕ) (x : Reply) → Further (on_check (check t) x).number → check t ≡ sound
table_sound t x h = by_check (check t) x (check_numbered t) h

-- a sound table, and an argument among its nodes
pub record Opened (t : List ℕ) (inside : Bool) : Type 0 where
  pub checked : check t ≡ sound
  pub among : inside ≡ true

module _ (t : List ℕ) (inside : Bool) (x : Reply) where
  pub opened : Further (on_check (check t) (in_nodes inside x)).number → Opened t inside
  opened h =
      let c = table_sound t (in_nodes inside x) h in
      record { checked = c; among = by_nodes inside x (rw c at h) }

  pub past_opening : Opened t inside → on_check (check t) (in_nodes inside x) ≡ x
  past_opening o = rw (o.checked, o.among)

-- ---- an answer within an allowance
module _ (allowance visits : ℕ) (x : Reply) where
  pub in_allowance_lem : visits ≤ allowance → in_allowance allowance visits x ≡ x
  in_allowance_lem l = rw (le-leb visits allowance l)

  pub over_allowance : allowance < visits → in_allowance allowance visits x ≡ reply 9 (Visits is allowance ∷ [])
  over_allowance l = rw (lt-leb visits allowance l)

-- from x to y only number 9 becomes another reply
abbrev pub OnlyNine : Reply → Reply → Type 0
OnlyNine x y = ¬ (x.number ≡ 9) → y ≡ x

pub larger_says : (a b visits : ℕ) (x : Reply) → a ≤ b → OnlyNine (in_allowance a visits x) (in_allowance b visits x)
larger_says a b visits x l h =
    ⊎_elim (λ (m : visits ≤ a). in_allowance_lem b visits x (omega arith) ∙ sym (in_allowance_lem a visits x m))
    (λ m. absurd (h (ap (λ (y : Reply). y.number) (over_allowance a visits x m)))) (le-or-lt visits a)

pub after_check : (c : Check) (x y : Reply) → OnlyNine x y → OnlyNine (on_check c x) (on_check c y)
after_check sound x y f h = f h
after_check (fault k p) x y f h = refl

pub after_nodes : (inside : Bool) (x y : Reply) → OnlyNine x y → OnlyNine (in_nodes inside x) (in_nodes inside y)
after_nodes true x y f h = f h
after_nodes false x y f h = refl
