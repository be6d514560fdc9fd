-- What is found once for a search: for each node a record that is judged for it, the nodes whose quorum sets are alike, and the nodes that
-- can lose something when such nodes are struck.
use Rattle.std.specs.Prelude.{◌≡◌, true, false, List, ◌⊎◌, ℕ, ◌<◌, get_or}
use Rattle.sets.specs.Sets.{has}
use Rattle.meanings.specs.Table.{records, nodes, satisfies, satisfied}
use Rattle.plans.specs.declared.Node.{Node}

-- Node i stays satisfied as long as only nodes of `like` are struck.
abbrev pub Untouched : List ℕ → ℕ → ℕ → Type 0
Untouched t like i = (u u' : ℕ) → ((j : ℕ) → has u j ≡ true → (has u' j ≡ true) ⊎ (has like j ≡ true)) → satisfied t u i ≡ true → satisfied t u' i ≡ true

-- What is found for node v: it is one of the nodes like it, judging its record is judging each of them, and whoever is not touched by them stays
-- satisfied without them.
pub record IsPlanOf (t : List ℕ) (v : ℕ) (found : Node) : Type 0 where
  pub inside : found.head < records t
  pub itself : has found.like v ≡ true
  pub judged : (i u : ℕ) → has found.like i ≡ true → satisfied t u i ≡ satisfies 3 t u found.head
  pub kept : (i : ℕ) → i < nodes t → has found.touched i ≡ false → Untouched t found.like i

-- what stands where no node has a plan
abbrev pub no_node : Node
no_node = record { head = 0; like = 0; touched = 0 }

abbrev pub node_at : List Node → ℕ → Node
node_at plan v = get_or plan v no_node

-- The plan of the first n nodes, each at its number.
abbrev pub PlannedTo : List ℕ → List Node → ℕ → Type 0
PlannedTo t plan n = (v : ℕ) → v < n → IsPlanOf t v (node_at plan v)
