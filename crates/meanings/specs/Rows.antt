-- A row of SPECIFICATION 10: a table, a question and its answer; and what it is for a row to hold.
use Rattle.std.specs.Prelude.{◌≡◌, Bool, not, cond, ℕ, ◌+◌, ◌*◌, eqb}
use mathlib.Core.List.{List, [], ◌∷◌, map, foldr}
use Rattle.std.specs.Int.Count.{count_trailing_zeros}
use Rattle.sets.specs.Sets.{has, only, nobody, everyone, ◌∪◌, ◌∖◌, size, within, smaller, meets, set_of, each}
use Rattle.sets.specs.Lists.{keep, all, some, from}
use Rattle.sets.specs.Listing.{before, subsets, all_sets, some_set, sets_that}
use Rattle.meanings.specs.Table.{records, control, members, threshold, level, heads, nodes, head_of, inner_of, inner_sets, entries, unknown, suffice, satisfies, satisfied}
use Rattle.meanings.specs.Faults as Faults
use Rattle.meanings.specs.Quorums as Quorums
use Rattle.meanings.specs.Quorums.{intersecting, disjoint_quorums, minimal_quorums, minimal_blocking_sets, intact_nodes, overlaps_slices}
use Rattle.meanings.specs.Rounds as Rounds
use Rattle.meanings.specs.Rounds.{survivors}
use Rattle.meanings.specs.Trees as Trees
use Rattle.meanings.specs.Trees.{list, minimal_tree, blocking_tree}
use Rattle.meanings.specs.Intact as Intact
use Rattle.meanings.specs.Replies.{Reply, value, Answer, Set, First, Second}
use Rattle.meanings.specs.Questions.{check_reply, quorum_reply, greatest_reply, blocks_reply, verdict_reply, minimal_reply, blocking_reply, intact_reply, list_puts}

-- a line (level; threshold; members), and a table of lines
abbrev pub nodes_of : List ℕ → ℕ
nodes_of l = foldr (λ i m. only i ∪ m) nobody l

pub record Line : Type 0 where
  pub level : ℕ
  pub threshold : ℕ
  pub members : List ℕ

abbrev pub line : ℕ → ℕ → List ℕ → Line
line k x l = record { level = k; threshold = x; members = l }

unfoldable pub table : List Line → List ℕ
table [] = []
table (x ∷ l) = (x.threshold + 256 * x.level) ∷ nodes_of x.members ∷ table l

-- the questions, each with what is asked and what is to come back
pub data Row : Type 0 where
  check : List ℕ → Reply → Row
  quorum greatest blocks verdict intact : List ℕ → ℕ → ℕ → Reply → Row
  minimal blocking : List ℕ → ℕ → ℕ → Reply → List ℕ → Row

-- What is said of a table: a reply, and what the reply means, told without a tree.
pub data Fact : Type 0 where
  test : Bool → Fact
  sets : List ℕ → Fact

pub record Told : Type 0 where
  pub replied : Reply
  pub meant : List Fact

abbrev pub told : Reply → List Fact → Told
told r l = record { replied = r; meant = l }

-- only an answer, number 0, says something of the table
abbrev pub answered : Reply → List Fact → List Fact
answered r l = cond (eqb r.number 0) l []

abbrev pub says_yes : Reply → Bool
says_yes r = eqb (value r Answer) 1

-- What the operation answers and what the definitions say of the table. Of a verdict: whether all quorums intersect, and whether
-- the pair are two quorums with no node in common. Of a list: what the walk of its tree puts there, and all sets of that kind. Of a set
-- that may block a node: whether it overlaps every slice of the node.
abbrev pub asked : Row → Told
asked (check t r) = told (check_reply t) []
asked (quorum t d u r) = told (quorum_reply t d u) []
asked (blocks t b v r) = told (blocks_reply t b v) (answered r (test (overlaps_slices (nodes t) (satisfied t) b v) ∷ []))
asked (greatest t d u r) = told (greatest_reply t d u) (answered r (sets (survivors (nodes t) (satisfied t) d u ∷ []) ∷ []))
asked (verdict t d allowance r) =
    told (verdict_reply t d allowance)
    (answered r
    (test (intersecting (nodes t) (satisfied t) d)
    ∷ test (disjoint_quorums (nodes t) (satisfied t) d (value r First) (value r Second)) ∷ []))
asked (intact t b allowance r) =
    told (intact_reply t b allowance) (answered r (sets (intact_nodes (nodes t) (satisfied t) b ∷ []) ∷ []))
asked (minimal t allowance room r l) =
    told (minimal_reply t allowance room)
    (answered r (sets (list_puts (list (minimal_tree (nodes t) (satisfied t)))) ∷ sets (minimal_quorums (nodes t) (satisfied t)) ∷ []))
asked (blocking t allowance room r l) =
    told (blocking_reply t allowance room)
    (answered r (sets (list_puts (list (blocking_tree (nodes t) (satisfied t)))) ∷ sets (minimal_blocking_sets (nodes t) (satisfied t)) ∷ []))

-- What the row says: yes exactly when all quorums intersect, and otherwise the pair; the set of those who are left, of the intact
-- nodes; the list; yes exactly when every slice is overlapped.
abbrev pub said : Row → Told
said (check t r) = told r []
said (quorum t d u r) = told r []
said (blocks t b v r) = told r (answered r (test (says_yes r) ∷ []))
said (greatest t d u r) = told r (answered r (sets (value r Set ∷ []) ∷ []))
said (verdict t d allowance r) = told r (answered r (test (says_yes r) ∷ test (not (says_yes r)) ∷ []))
said (intact t b allowance r) = told r (answered r (sets (value r Set ∷ []) ∷ []))
said (minimal t allowance room r l) = told r (answered r (sets l ∷ sets l ∷ []))
said (blocking t allowance room r l) = told r (answered r (sets l ∷ sets l ∷ []))

-- a row holds, and every row of a list holds
abbrev pub Holds : Row → Type 0
Holds x = asked x ≡ said x

abbrev pub Every : List Row → Type 0
Every l = map asked l ≡ map said l

-- All that a row computes with: a proof that says `unfolding computing` sees through each of these.
unfoldable pub computing : Unit {0}
unfolding has everyone ◌∖◌ size within smaller meets set_of each keep all some from before subsets all_sets some_set sets_that count_trailing_zeros records control members threshold level heads nodes head_of inner_of inner_sets entries unknown suffice satisfies satisfied Faults.first_fault Faults.bad_count Faults.bad_control Faults.bad_level Faults.surplus Faults.no_threshold Faults.strangers Faults.too_high Faults.shape_fault Faults.line_fault Faults.entry_fault Faults.check_by Faults.check Faults.check_lines Quorums.whole_ground Quorums.quorum Quorums.greatest Quorums.holds_quorum Quorums.intersecting Quorums.disjoint_quorums Quorums.minimal_quorum Quorums.blocking_set Quorums.minimal_blocking Quorums.minimal_quorums Quorums.minimal_blocking_sets Quorums.dset Quorums.intact Quorums.intact_nodes Quorums.blocks Quorums.slice Quorums.overlaps_slices Rounds.round Rounds.last_round Rounds.rounds_from Rounds.left_from Rounds.rounds Rounds.survivors Trees.quorum_tree Trees.over_half Trees.pair_at Trees.verdict_tree Trees.minimal_tree Trees.blocking_from Trees.blocking_tree Trees.walk Trees.list Intact.next_u Intact.rounds_from Intact.intact_search table check_reply quorum_reply greatest_reply blocks_reply verdict_reply minimal_reply blocking_reply intact_reply
computing = tt
