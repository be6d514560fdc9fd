-- SPECIFICATION 1 and 7: numbers 1 to 7, by which a table is turned away.
use Rattle.std.specs.Prelude.{Bool, true, false, not, ◌&&◌, ◌||◌, List, [], ◌∷◌, ℕ, zero, suc, ◌%◌, leb, ltb, eqb, length}
use Rattle.sets.specs.Sets.{everyone, within}
use Rattle.sets.specs.Lists.{keep, from}
use Rattle.meanings.specs.Table.{records, control, threshold, level, members, nodes, entries, unknown}

-- what checking comes to: nothing is wrong, or a number with its place; places count from 1
pub data Check : Type 0 where
  sound : Check
  fault : ℕ → ℕ → Check

-- the first that finds something
abbrev pub or_else : Check → Check → Check
or_else sound c = c
or_else (fault k p) c = fault k p

-- a number and a place where a test holds
abbrev pub fault_if : Bool → ℕ → ℕ → Check
fault_if true k p = fault k p
fault_if false k p = sound

unfoldable pub first_fault : (ℕ → Check) → List ℕ → Check
first_fault f [] = sound
first_fault f (r ∷ l) = or_else (f r) (first_fault f l)

-- 1: odd word count, no record, over 256
unfoldable pub bad_count : List ℕ → Bool
bad_count t = eqb (length t % 2) 1 || eqb (records t) 0 || ltb 256 (records t)

-- 2: control word 1,024 or more
unfoldable pub bad_control : List ℕ → ℕ → Bool
bad_control t r = leb 1024 (control t r)

-- 3: first record not level 0, or a level more than one above the record before
unfoldable pub bad_level : List ℕ → ℕ → Bool
bad_level t zero = not (eqb (level t zero) 0)
bad_level t (suc r) = ltb (suc (level t r)) (level t (suc r))

-- 4: a 65th level 0 record
unfoldable pub surplus : List ℕ → ℕ → Bool
surplus t r = eqb (level t r) 0 && eqb (length (keep (λ j. eqb (level t j) 0) (from 0 r))) 64

-- 5: threshold 0, unless the record is an unknown archive: where its level is above 0, or it has members or inner sets
unfoldable pub no_threshold : List ℕ → ℕ → Bool
no_threshold t r = eqb (threshold t r) 0 && not (unknown t r)

-- 6: a member that is no node
unfoldable pub strangers : List ℕ → ℕ → Bool
strangers t r = not (within (members t r) (everyone (nodes t)))

-- 7: threshold above the entries
unfoldable pub too_high : List ℕ → ℕ → Bool
too_high t r = ltb (entries t r) (threshold t r)

-- at one record: any of 2 to 5, lowest number first; 6 or 7, 6 first
unfoldable pub shape_fault : List ℕ → ℕ → Check
shape_fault t r =
    or_else (fault_if (bad_control t r) 2 (suc r))
    (or_else (fault_if (bad_level t r) 3 (suc r))
    (or_else (fault_if (surplus t r) 4 (suc r)) (fault_if (no_threshold t r) 5 (suc r))))

-- On a sheet the threshold of an unknown archive is `?`, and a written 0 gives 5 at its record too, in its place among 2 to 5. `nought` is the
-- first line whose threshold is a written 0, and 0 where there is none.
unfoldable pub line_fault : (nought : ℕ) → List ℕ → ℕ → Check
line_fault nought t r = or_else (shape_fault t r) (fault_if (eqb (suc r) nought) 5 (suc r))

unfoldable pub entry_fault : List ℕ → ℕ → Check
entry_fault t r = or_else (fault_if (strangers t r) 6 (suc r)) (fault_if (too_high t r) 7 (suc r))

-- Order: 1; then the first record that meets any of 2 to 5; then the first that meets 6 or 7.
unfoldable pub check_by : (ℕ → Check) → List ℕ → Check
check_by shape t =
    elim (bad_count t) [
      | true ↦ fault 1 0
      | false ↦ or_else (first_fault shape (from 0 (records t))) (first_fault (entry_fault t) (from 0 (records t)))
    ]

-- the check of a table, and of the records that the lines of a sheet come to
unfoldable pub check : List ℕ → Check
check t = check_by (shape_fault t) t

unfoldable pub check_lines : (nought : ℕ) → List ℕ → Check
check_lines nought t = check_by (line_fault nought t) t
