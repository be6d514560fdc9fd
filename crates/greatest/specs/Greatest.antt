-- What is known of a set of nodes while nodes are struck from it, and what is asked for: the greatest quorum within it, where certain nodes
-- are all in it.
use Rattle.std.specs.Prelude.{◌≡◌, Bool, true, false, List, ℕ, ◌<◌, ◌^◌}
use Rattle.sets.specs.Sets.{has, nobody, only, ◌∪◌, ◌∖◌, within}
use Rattle.meanings.specs.Table.{nodes, satisfied}

-- m, where a test holds, and otherwise nobody
abbrev pub where_true : Bool → ℕ → ℕ
where_true true m = m
where_true false m = nobody

-- the greatest quorum g, where it has each of those that must stay; otherwise nobody
abbrev pub holding : ℕ → ℕ → ℕ
holding must g = where_true (within must g) g

-- Of the nodes of u, those that are not due are known to be satisfied.
pub record Waiting (t : List ℕ) (d u due : ℕ) : Type 0 where
  pub below : u < 2 ^ nodes t
  pub due_in : within due u ≡ true
  pub met : (i : ℕ) → has u i ≡ true → has due i ≡ false → satisfied t (u ∪ d) i ≡ true

-- none of the nodes of u is counted out
abbrev pub Apart : ℕ → ℕ → Type 0
Apart d u = (i : ℕ) → has u i ≡ true → has d i ≡ false

-- the same with none counted out, and `must` are to stay
pub record Due (t : List ℕ) (d u due must : ℕ) : Type 0 where
  pub waiting : Waiting t d u due
  pub apart : Apart d u
  pub must_in : within must u ≡ true

-- g is a quorum or nobody
pub record Closed (t : List ℕ) (d g : ℕ) : Type 0 where
  pub below : g < 2 ^ nodes t
  pub apart : Apart d g
  pub met : (i : ℕ) → has g i ≡ true → satisfied t (g ∪ d) i ≡ true

-- v is one of its nodes, and `must` are others of them
pub record Striking (t : List ℕ) (d g v must : ℕ) : Type 0 where
  pub closed : Closed t d g
  pub one_in : has g v ≡ true
  pub must_in : within must (g ∖ only v) ≡ true
