-- What a visit of the tree of the verdict, or of the minimal quorums, knows from the visit above it, what it comes to before it splits, and
-- what it hands to the two visits below.
use Rattle.std.specs.Prelude.{◌≡◌, Bool, true, false, not, ◌||◌, List, ℕ, ◌<◌, ◌^◌}
use Rattle.meanings.specs.Of as of
use Rattle.sets.specs.Sets.{has, nobody, only, ◌∪◌, ◌∖◌, empty, within}
use Rattle.meanings.specs.Table.{nodes}
use Rattle.greatest.specs.Greatest.{holding, Waiting}
use Rattle.quorum_visits.specs.declared.Visit.{Visit}
use Rattle.quorum_visits.specs.declared.Met.{Met}
use Rattle.quorum_visits.specs.declared.Met.TheVariants.{Dry, Waits, Quorum}

-- the greatest quorum in c and r together
abbrev pub reach : List ℕ → ℕ → ℕ → ℕ → ℕ
reach t d c r = of.greatest t d (c ∪ r)

-- A visit with d counted out: g is the greatest quorum in c and r together where it has all of c, and otherwise nobody. The nodes of c that
-- are not due are satisfied; where c has not grown since the visit above, it is known to be no quorum.
pub record Stands (t : List ℕ) (d : ℕ) (a : Visit) : Type 0 where
  pub open_in : a.r < 2 ^ nodes t
  pub in_reach : a.g ≡ holding a.c (reach t d a.c a.r)
  pub waiting : Waiting t d a.c a.due
  pub not_grown : a.grown ≡ false → of.quorum t d a.c ≡ false

-- Step (2): no quorum is in reach, or it lacks a chosen node. Step (3): c is a quorum, or it is not, and some of its nodes are still due.
abbrev pub dry : List ℕ → ℕ → ℕ → ℕ → Bool
dry t d c r = empty (reach t d c r) || not (within c (reach t d c r))

pub record Waiter (t : List ℕ) (d : ℕ) (a : Visit) (due : ℕ) : Type 0 where
  pub not-dry : dry t d a.c a.r ≡ false
  pub no-quorum : of.quorum t d a.c ≡ false
  pub waiting : Waiting t d a.c due

abbrev pub MetIs : List ℕ → ℕ → Visit → Met → Type 0
MetIs t d a Dry = dry t d a.c a.r ≡ true
MetIs t d a (Waits due) = Waiter t d a due
MetIs t d a Quorum = (dry t d a.c a.r ≡ false) × (of.quorum t d a.c ≡ true)

-- a split on node v, which is in reach and not chosen
pub record Ready (t : List ℕ) (d : ℕ) (a : Visit) (v due : ℕ) : Type 0 where
  pub waiter : Waiter t d a due
  pub one_in : has (a.g ∖ a.c) v ≡ true

-- a visit below it, with the nodes c chosen
pub record Below (t : List ℕ) (d : ℕ) (a : Visit) (v c : ℕ) (b : Visit) : Type 0 where
  pub stands : Stands t d b
  pub chosen_are : b.c ≡ c
  pub open_are : b.r ≡ a.g ∖ a.c ∖ only v

-- the visit that a search starts with: no node chosen, u open
abbrev pub root_is : List ℕ → ℕ → ℕ → Visit
root_is t d u = record { c = nobody; r = u; g = of.greatest t d u; due = nobody; grown = true }
