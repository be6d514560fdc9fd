-- The records at level 0, which open the nodes, among some of the records.
use Rattle.std.specs.Prelude.{◌≡◌, Bool, List, ℕ, ◌<◌, eqb, length, get_or}
use Rattle.sets.specs.Lists.{keep, from}
use Rattle.meanings.specs.Table.{level, head_of}
use Rattle.meanings.specs.Faults.{check, sound}

-- whether a record opens a node; which of the n records from a on do, and how many of those before record r
abbrev pub is_head : List ℕ → ℕ → Bool
is_head t r = eqb (level t r) 0

abbrev pub heads_in : List ℕ → ℕ → ℕ → List ℕ
heads_in t a n = keep (λ j. eqb (level t j) 0) (from a n)

abbrev pub heads_before : List ℕ → ℕ → ℕ
heads_before t r = length (heads_in t 0 r)

-- a list of words that has the record of each of the first n nodes at the node's number
abbrev pub HeadsTo : List ℕ → List ℕ → ℕ → Type 0
HeadsTo t found n = (v : ℕ) → v < n → get_or found v 0 ≡ head_of t v

-- What is read of a sound table: the table is sound, and what is told of it.
pub record Reads (t : List ℕ) (told : Type 0) : Type 0 where
  pub checked : check t ≡ sound
  pub reads : told
