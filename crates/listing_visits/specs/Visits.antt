-- What a visit comes to, said of the tree that lies below it.
use Rattle.std.specs.Prelude.{◌≡◌, Bool, true, false, cond, List, ℕ, suc, ◌≤◌, ◌<◌, ◌^◌}
use Rattle.meanings.specs.Of as of
use Rattle.sets.specs.Sets.{has, nobody, everyone, only, ◌∪◌, ◌∩◌, ◌∖◌, empty, within, size, lowest}
use Rattle.meanings.specs.Table.{nodes, satisfied}
use Rattle.meanings.specs.Quorums.{quorum, holds_quorum, minimal_quorum, blocking_set, minimal_blocking}
use Rattle.meanings.specs.Trees.{Tree, leaf, found, unsplit, fork, found_if, quorum_tree, blocking_from}
use Rattle.listing_visits.specs.declared.Sought.{Sought}
use Rattle.listing_visits.specs.declared.Sought.TheVariants.{Quorums, Blocking}
use Rattle.listing_visits.specs.declared.Step.{Step}
use Rattle.listing_visits.specs.declared.Step.TheVariants.{Leaf, Listed, Stuck, Split}
use Rattle.quorum_visits.specs.declared.Visit.{Visit}
use Rattle.quorum_visits.specs.Visits as Branches

module _ (n : ℕ) (s : ℕ → ℕ → Bool) where
  -- whether a set is of the kind that is sought, whether it is minimal among them, and whether it can spare a node
  abbrev pub is_sought : Sought → ℕ → Bool
  is_sought Quorums c = quorum n s nobody c
  is_sought Blocking c = blocking_set n s c

  abbrev pub is_minimal : Sought → ℕ → Bool
  is_minimal Quorums c = minimal_quorum n s c
  is_minimal Blocking c = minimal_blocking n s c

  abbrev pub spared : Sought → ℕ → ℕ → Bool
  spared Quorums c v = holds_quorum n s nobody (c ∖ only v)
  spared Blocking c v = blocking_set n s (c ∖ only v)

  -- the tree below a visit
  abbrev pub tree_at : Sought → ℕ → ℕ → Tree ℕ
  tree_at Quorums c r = quorum_tree n s nobody (λ c. false) (λ c. found_if (minimal_quorum n s c) c) (suc n) c r
  tree_at Blocking c r = blocking_from n s (suc n) c r

-- the nodes that stay open below a split on node v
abbrev pub open_below : Sought → Visit → ℕ → ℕ
open_below Quorums a v = a.g ∖ a.c ∖ only v
open_below Blocking a v = a.r ∖ only v

-- ---- what a visit knows from the one above it

-- Blocking sets: g is the greatest quorum outside c. Outside c and r there is no quorum where c has grown since the visit above, and
-- otherwise each quorum there has the nodes that are due.
pub record KnownBlocking (t : List ℕ) (a : Visit) : Type 0 where
  pub outside : a.g ≡ of.greatest t nobody (everyone (nodes t) ∖ a.c)
  pub has_grown : a.grown ≡ true → of.holds_quorum t nobody (everyone (nodes t) ∖ (a.c ∪ a.r)) ≡ false
  pub due_in : within a.due (everyone (nodes t) ∖ (a.c ∪ a.r)) ≡ true
  pub due_all : (q : ℕ) → of.quorum t nobody q ≡ true → within q (everyone (nodes t) ∖ (a.c ∪ a.r)) ≡ true → within a.due q ≡ true

abbrev pub Known : List ℕ → Sought → Visit → Type 0
Known t Quorums a = Branches.Stands t nobody a
Known t Blocking a = KnownBlocking t a

pub record Stands (t : List ℕ) (sought : Sought) (a : Visit) : Type 0 where
  pub small : nodes t ≤ 64
  pub chosen_in : a.c < 2 ^ nodes t
  pub open_in : a.r < 2 ^ nodes t
  pub known : Known t sought a

-- ---- what a visit comes to

-- what the visits below a split on node v rest on
pub record ReadyBlocking (t : List ℕ) (a : Visit) (v : ℕ) : Type 0 where
  pub none_outside : of.holds_quorum t nobody (everyone (nodes t) ∖ (a.c ∪ a.r)) ≡ false
  pub one_in : has (a.r ∩ a.g) v ≡ true

abbrev pub Ready : List ℕ → Sought → Visit → ℕ → ℕ → Type 0
Ready t Quorums a v due = Branches.Ready t nobody a v due
Ready t Blocking a v due = ReadyBlocking t a v

-- a split on node v, with the chosen nodes that are still due: the tree has two parts, with fewer open nodes than before
pub record Splits (t : List ℕ) (sought : Sought) (a : Visit) (v due : ℕ) : Type 0 where
  pub ready : Ready t sought a v due
  pub parts : tree_at (nodes t) (satisfied t) sought a.c a.r ≡
      fork (tree_at (nodes t) (satisfied t) sought a.c (open_below sought a v))
      (tree_at (nodes t) (satisfied t) sought (a.c ∪ only v) (open_below sought a v))
  pub fewer : size 64 (open_below sought a v) < size 64 a.r

abbrev pub Comes : List ℕ → Sought → Visit → Step → Type 0
Comes t sought a Leaf = tree_at (nodes t) (satisfied t) sought a.c a.r ≡ leaf
Comes t sought a Listed = tree_at (nodes t) (satisfied t) sought a.c a.r ≡ found a.c
Comes t sought a Stuck = tree_at (nodes t) (satisfied t) sought a.c a.r ≡ unsplit
Comes t sought a (Split v due) = Splits t sought a v due

-- the split on the lowest node, where there is one
abbrev pub chosen : ℕ → ℕ → Step
chosen on due = cond (empty on) Stuck (Split (lowest 64 on) due)

-- ---- the visits below a split
pub record Below (t : List ℕ) (sought : Sought) (a : Visit) (v c : ℕ) (b : Visit) : Type 0 where
  pub stands : Stands t sought b
  pub chosen_are : b.c ≡ c
  pub open_are : b.r ≡ open_below sought a v

-- ---- whether a set is minimal

-- c is of the kind that is sought
pub record Asked (t : List ℕ) (sought : Sought) (c : ℕ) : Type 0 where
  pub below : c < 2 ^ nodes t
  pub is_one : is_sought (nodes t) (satisfied t) sought c ≡ true

-- the nodes of c that are left to test; those that are done cannot be spared
pub record Left (n : ℕ) (s : ℕ → ℕ → Bool) (k : Sought) (c left : ℕ) : Type 0 where
  pub below : left < 2 ^ n
  pub inside : within left c ≡ true
  pub kept : (v : ℕ) → has c v ≡ true → has left v ≡ false → spared n s k c v ≡ false
