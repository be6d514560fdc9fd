-- What a walk over the records goes by.
use Rattle.std.specs.Prelude.{◌≡◌, List, [], ◌∷◌, ℕ, zero, suc, ◌<◌, Result, Ok, Err}
use Rattle.sets.specs.Lists.{from}
use Rattle.meanings.specs.Table.{records, level, nodes}
use Rattle.meanings.specs.Faults.{Check, sound, first_fault, shape_fault, line_fault, entry_fault, check, check_lines}
use Rattle.meanings.specs.Replies.{Reply, reply, ◌is◌, Nodes, Records}
use Rattle.meanings.specs.Questions.{on_check}
use Rattle.answers.specs.declared.Fault.{Fault}
use Rattle.answers.specs.Said.{fault_says}

-- what is answered where nothing is wrong: so many nodes and records
abbrev pub counted : ℕ → ℕ → Reply
counted n k = reply 0 (Nodes is n ∷ Records is k ∷ [])

-- the highest level that record r may have
unfoldable pub highest : List ℕ → ℕ → ℕ
highest t zero = 0
highest t (suc r) = suc (level t r)

-- the first record that meets any of 2 to 5, and the first that meets 6 or 7, from record r on
abbrev pub lines_from : (nought : ℕ) → List ℕ → ℕ → ℕ → Check
lines_from nought t r n = first_fault (line_fault nought t) (from r n)

abbrev pub entries_from : List ℕ → ℕ → ℕ → Check
entries_from t r n = first_fault (entry_fault t) (from r n)

-- no record meets any of 2 to 5
abbrev pub Shapely : List ℕ → Type 0
Shapely t = (r : ℕ) → r < records t → shape_fault t r ≡ sound

-- what the records of a sheet's lines are answered: the first fault, or the nodes and records
abbrev pub lines_reply : (nought : ℕ) → List ℕ → Reply
lines_reply nought t = on_check (check_lines nought t) (counted (nodes t) (records t))

-- a fault says what checking has come to, whatever is answered where nothing is wrong
abbrev pub Tells : Check → Fault → Type 0
Tells c f = (r : Reply) → fault_says f ≡ on_check c r

-- a walk counts the nodes, or tells the fault that it meets
abbrev pub Counts : Check → ℕ → Result ℕ Fault → Type 0
Counts c nodes (Ok n) = (c ≡ sound) × (n ≡ nodes)
Counts c nodes (Err f) = Tells c f

-- a walk that counts nothing
abbrev pub Passes : {A : Type 0} → Check → Result A Fault → Type 0
Passes c (Ok x) = c ≡ sound
Passes c (Err f) = Tells c f

-- words are opened as the sound table that they are, or the fault is told that their check finds
abbrev pub Opens : List ℕ → Result (List ℕ) Fault → Type 0
Opens w (Ok t) = (t ≡ w) × (check w ≡ sound)
Opens w (Err f) = Tells (check w) f
