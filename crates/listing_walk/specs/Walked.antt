-- What a walk of a listing tree answers, with so many visits spent and sets found before it.
use Rattle.std.specs.Prelude.{◌≡◌, cond, List, ℕ, ◌+◌, ◌≤◌, leb, length, Result, Ok, Err}
use Rattle.std.proofs.lemmas.List.Edits.{sets}
use Rattle.meanings.specs.Trees.{Tree, Listing, listed, broken, list}
use Rattle.meanings.specs.Questions.{list_puts}
use Rattle.answers.specs.declared.Listed.{Listed}
use Rattle.answers.specs.declared.Refusal.{Refusal}
use Rattle.answers.specs.declared.Refusal.TheVariants.{Spent, Unsplit}
use Rattle.listing_visits.specs.declared.Sought.{Sought}
use Rattle.quorum_visits.specs.declared.Visit.{Visit}
use Rattle.listing_visits.specs.Visits.{Stands}

-- Each visit counts one; the allowance ends first where the visits up to the end are more than it.
abbrev pub answered : ℕ → ℕ → ℕ → Listing ℕ → Result Listed Refusal
answered allowance spent found (listed l k) =
    cond (leb (spent + k) allowance) (Ok (record { count = found + length l; visits = spent + k })) (Err (Spent allowance))
answered allowance spent found (broken k) = cond (leb (spent + k) allowance) (Err Unsplit) (Err (Spent allowance))

-- On an answer every listed set stands where it has a place, behind those found before; on a refusal nothing is said of the list.
pub record Walked (tree : Tree ℕ) (allowance spent found : ℕ) (before after : List ℕ) (o : Result Listed Refusal) : Type 0 where
  pub says : o ≡ answered allowance spent found (list tree)
  pub wrote : (some : Listed) → o ≡ Ok some → after ≡ sets before found (list_puts (list tree))

-- what a walk asks of its caller: each set found has cost a visit, so their count never overflows
pub record Walking (t : List ℕ) (sought : Sought) (a : Visit) (spent found : ℕ) : Type 0 where
  pub stands : Stands t sought a
  pub fewer_found : found ≤ spent
