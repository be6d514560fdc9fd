-- SPECIFICATION 3: quorums and what is asked of them, over n nodes and any satisfaction s, where s u v says that the set u satisfies the
-- quorum set of node v. Nothing here knows of tables, and nothing of how an answer is found: each subset of the nodes is held against each
-- other subset.
use Rattle.std.specs.Prelude.{Bool, not, ◌&&◌, ◌||◌, ℕ, eqb}
use mathlib.Core.List.{List, foldr}
use Rattle.sets.specs.Sets.{has, nobody, everyone, ◌∪◌, ◌∖◌, empty, within, smaller, meets, set_of, each}
use Rattle.sets.specs.Listing.{all_sets, some_set, sets_that}

-- With d counted out, the ground is all nodes not in d.
unfoldable pub whole_ground : ℕ → ℕ → ℕ
whole_ground n d = everyone n ∖ d

module _ (n : ℕ) (s : ℕ → ℕ → Bool) where
  -- u is a quorum when it is not empty, lies within the ground, and u with d added satisfies the set of each node of u.
  unfoldable pub quorum : ℕ → ℕ → Bool
  quorum d u = not (empty u) && within u (whole_ground n d) && each n u (λ v. s (u ∪ d) v)

  -- The greatest quorum within u is the union of all quorums in u, or empty.
  unfoldable pub greatest : ℕ → ℕ → ℕ
  greatest d u = foldr (λ q all. q ∪ all) nobody (sets_that n (λ q. quorum d q && within q u))

  -- whether u holds a quorum
  unfoldable pub holds_quorum : ℕ → ℕ → Bool
  holds_quorum d u = some_set n (λ q. quorum d q && within q u)

  -- All quorums intersect: every two of them have a node in common.
  unfoldable pub intersecting : ℕ → Bool
  intersecting d = all_sets n (λ p. all_sets n (λ q. not (quorum d p && quorum d q) || meets p q))

  -- p and q are two quorums with no node in common
  unfoldable pub disjoint_quorums : ℕ → ℕ → ℕ → Bool
  disjoint_quorums d p q = quorum d p && quorum d q && not (meets p q)

  -- A minimal quorum has no smaller quorum inside it. (With nobody counted out.)
  unfoldable pub minimal_quorum : ℕ → Bool
  minimal_quorum u = quorum nobody u && not (some_set n (λ q. quorum nobody q && smaller q u))

  -- b is a blocking set when the nodes outside b hold no quorum; it is minimal when no proper subset blocks.
  unfoldable pub blocking_set : ℕ → Bool
  blocking_set b = not (holds_quorum nobody (everyone n ∖ b))

  unfoldable pub minimal_blocking : ℕ → Bool
  minimal_blocking b = blocking_set b && not (some_set n (λ c. blocking_set c && smaller c b))

  -- The lists: every such set, without repeats, in the listing order.
  unfoldable pub minimal_quorums : List ℕ
  minimal_quorums = sets_that n minimal_quorum

  unfoldable pub minimal_blocking_sets : List ℕ
  minimal_blocking_sets = sets_that n minimal_blocking

  -- d is a DSet when all quorums with d counted out intersect, and the other nodes are a plain quorum or d is everything.
  unfoldable pub dset : ℕ → Bool
  dset d = intersecting d && (quorum nobody (everyone n ∖ d) || eqb d (everyone n))

  -- A node is intact for the ill set b when some DSet holds all of b and not that node.
  unfoldable pub intact : ℕ → ℕ → Bool
  intact b v = some_set n (λ d. dset d && within b d && not (has d v))

  unfoldable pub intact_nodes : ℕ → ℕ
  intact_nodes b = set_of n (intact b)

  -- b blocks node v when v is in b, or when the nodes outside b do not satisfy v's quorum set.
  unfoldable pub blocks : ℕ → ℕ → Bool
  blocks b v = has b v || not (s (everyone n ∖ b) v)

  -- The papers say it by slices: q is a slice of v when it holds v and satisfies v's quorum set, and b overlaps every slice of v when it
  -- has a node in common with each. That the two are the same is a theorem (theory, Blocks).
  unfoldable pub slice : ℕ → ℕ → Bool
  slice q v = has q v && s q v

  unfoldable pub overlaps_slices : ℕ → ℕ → Bool
  overlaps_slices b v = all_sets n (λ q. not (slice q v) || meets b q)
