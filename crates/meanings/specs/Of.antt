-- The notions of quorums, rounds and trees, of a table: its nodes, and its satisfaction. A contract that says `of.quorum t d u` speaks of
-- the quorums of the table t.
use Rattle.std.specs.Prelude.{Bool, List, ℕ}
use Rattle.meanings.specs.Table.{nodes, satisfied}
use Rattle.meanings.specs.Quorums as Quorums
use Rattle.meanings.specs.Rounds as Rounds
use Rattle.meanings.specs.Trees as Trees
use Rattle.meanings.specs.Intact as Intact

module _ (t : List ℕ) where
  abbrev pub whole_ground : (d : ℕ) → ℕ
  whole_ground = Quorums.whole_ground (nodes t)

  abbrev pub quorum : (d u : ℕ) → Bool
  quorum = Quorums.quorum (nodes t) (satisfied t)

  abbrev pub greatest : (d u : ℕ) → ℕ
  greatest = Quorums.greatest (nodes t) (satisfied t)

  abbrev pub holds_quorum : (d u : ℕ) → Bool
  holds_quorum = Quorums.holds_quorum (nodes t) (satisfied t)

  abbrev pub intersecting : (d : ℕ) → Bool
  intersecting = Quorums.intersecting (nodes t) (satisfied t)

  abbrev pub disjoint_quorums : (d p q : ℕ) → Bool
  disjoint_quorums = Quorums.disjoint_quorums (nodes t) (satisfied t)

  abbrev pub minimal_quorums : List ℕ
  minimal_quorums = Quorums.minimal_quorums (nodes t) (satisfied t)

  abbrev pub minimal_blocking_sets : List ℕ
  minimal_blocking_sets = Quorums.minimal_blocking_sets (nodes t) (satisfied t)

  abbrev pub intact_nodes : (b : ℕ) → ℕ
  intact_nodes = Quorums.intact_nodes (nodes t) (satisfied t)

  abbrev pub blocks : (b v : ℕ) → Bool
  blocks = Quorums.blocks (nodes t) (satisfied t)

  abbrev pub rounds : (d u : ℕ) → ℕ
  rounds = Rounds.rounds (nodes t) (satisfied t)

  abbrev pub survivors : (d u : ℕ) → ℕ
  survivors = Rounds.survivors (nodes t) (satisfied t)

  abbrev pub verdict_tree : (d : ℕ) → Trees.Tree Trees.Pair
  verdict_tree = Trees.verdict_tree (nodes t) (satisfied t)

  abbrev pub minimal_tree : Trees.Tree ℕ
  minimal_tree = Trees.minimal_tree (nodes t) (satisfied t)

  abbrev pub blocking_tree : Trees.Tree ℕ
  blocking_tree = Trees.blocking_tree (nodes t) (satisfied t)

  abbrev pub intact_search : (b : ℕ) → Intact.Ended
  intact_search = Intact.intact_search (nodes t) (satisfied t)
