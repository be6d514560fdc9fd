-- What the operations that list sets promise.
use Rattle.std.specs.Prelude.{List, ℕ, length, Result}
use Rattle.meanings.specs.Of as of
use Rattle.sets.specs.Sets.{nobody, everyone}
use Rattle.meanings.specs.Table.{nodes, satisfied}
use Rattle.meanings.specs.Faults.{Check}
use Rattle.meanings.specs.Trees.{Tree, list}
use Rattle.meanings.specs.Replies.{Lent}
use Rattle.meanings.specs.Questions.{on_check, list_says, list_puts, minimal_reply, blocking_reply}
use Rattle.answers.specs.declared.Listed.{Listed}
use Rattle.answers.specs.declared.Refusal.{Refusal}
use Rattle.answers.specs.Said.{listed_says}
use Rattle.listing_visits.specs.declared.Sought.{Sought}
use Rattle.listing_visits.specs.Visits.{tree_at}

-- The two operations, for a table, an allowance and a lent list: what they put there is every minimal quorum, or every minimal blocking
-- set, in the listing order.
abbrev pub ListsMinimal : List ℕ → ℕ → List ℕ → List ℕ → Result Listed Refusal → Type 0
ListsMinimal t allowance before after o =
    Lent (listed_says o) (minimal_reply t allowance (length before)) (of.minimal_quorums t) before after

abbrev pub ListsBlocking : List ℕ → ℕ → List ℕ → List ℕ → Result Listed Refusal → Type 0
ListsBlocking t allowance before after o =
    Lent (listed_says o) (blocking_reply t allowance (length before)) (of.minimal_blocking_sets t) before after

-- the tree from C empty and R = all
abbrev pub tree_of : List ℕ → Sought → Tree ℕ
tree_of t sought = tree_at (nodes t) (satisfied t) sought nobody (everyone (nodes t))

-- What comes of a walk of that tree, behind what checking the table has found: the answer, and the lent list.
abbrev pub Walks : Check → List ℕ → Sought → (allowance : ℕ) → (before after : List ℕ) → Result Listed Refusal → Type 0
Walks checked t sought allowance before after o =
    let listing = list (tree_of t sought) in
    Lent (listed_says o) (on_check checked (list_says allowance (length before) listing)) (list_puts listing) before after
