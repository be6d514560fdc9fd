-- SPECIFICATION 5: which visits a search makes. What an answer means stands in Quorums, which knows no tree.
use Rattle.std.specs.Prelude.{Bool, true, false, not, ◌||◌, List, [], ◌∷◌, ◌++◌, ℕ, zero, suc, ◌+◌, ◌/◌, ltb}
use Rattle.sets.specs.Sets.{nobody, everyone, only, ◌∪◌, ◌∩◌, ◌∖◌, size, lowest, empty, within}
use Rattle.meanings.specs.Quorums.{whole_ground, quorum, greatest, holds_quorum, minimal_quorum, blocking_set, minimal_blocking}

-- A tree of visits. A leaf has nothing below; it may find something. A visit that splits has two visits below, taken in
-- order. One that comes to the split and has no node to split on is number 13.
pub data Tree (A : Type 0) : Type 0 where
  leaf : Tree A
  found : A → Tree A
  unsplit : Tree A
  fork : Tree A → Tree A → Tree A

pub record Pair : Type 0 where
  pub first : ℕ
  pub second : ℕ

-- ---- the trees
-- A visit has chosen nodes c and open nodes r. Each definition has a bound on how deep it goes; below, `most`.

module _ {A : Type 0} where
  -- a leaf, which finds something where a test holds
  abbrev pub found_if : Bool → A → Tree A
  found_if true x = found x
  found_if false x = leaf

module _ {A : Type 0} (n : ℕ) (s : ℕ → ℕ → Bool) (d : ℕ) (prune : ℕ → Bool) (at_quorum : ℕ → Tree A) where
  -- The tree of the verdict and of the minimal quorums, from step (2) on; `prune` is step (1), `at_quorum` step (3).
  -- (2) g is the greatest quorum in c and r together; if it is empty or lacks a node of c, leaf.
  -- (4) v is the lowest node of g not in c, r' is g without c and v; visit (c, r'), then (c with v, r').
  unfoldable pub quorum_tree : ℕ → ℕ → ℕ → Tree A
  quorum_tree zero c r = leaf
  quorum_tree (suc most) c r =
      let g = greatest n s d (c ∪ r) in
      let v = only (lowest n (g ∖ c)) in
      let rest = g ∖ c ∖ v in
      elim (prune c) [
        | true ↦ leaf
        | false ↦ elim (empty g || not (within c g)) [
          | true ↦ leaf
          | false ↦ elim (quorum n s d c) [
            | true ↦ at_quorum c
            | false ↦ elim (empty (g ∖ c)) [
              | true ↦ unsplit
              | false ↦ fork (quorum_tree most c rest) (quorum_tree most (c ∪ v) rest)
            ]
          ]
        ]
      ]

module _ (n : ℕ) (s : ℕ → ℕ → Bool) where
  -- Verdict, from c empty and r = A: (1) if c has more than half of A's nodes, rounded down, leaf. (3) If c is a quorum: where
  -- A without c holds a quorum, answer "no" with c and the greatest such quorum; otherwise leaf.
  unfoldable pub over_half : ℕ → ℕ → Bool
  over_half d c = ltb (size n (whole_ground n d) / 2) (size n c)

  unfoldable pub pair_at : ℕ → ℕ → Tree Pair
  pair_at d c =
      found_if (holds_quorum n s d (whole_ground n d ∖ c)) (record { first = c; second = greatest n s d (whole_ground n d ∖ c) })

  unfoldable pub verdict_tree : ℕ → Tree Pair
  verdict_tree d = quorum_tree n s d (over_half d) (pair_at d) (suc n) nobody (whole_ground n d)

  -- Minimal quorums: the same with d empty, without (1); at (3) c is listed if minimal, and is a leaf.
  unfoldable pub minimal_tree : Tree ℕ
  minimal_tree = quorum_tree n s nobody (λ c. false) (λ c. found_if (minimal_quorum n s c) c) (suc n) nobody (everyone n)

  -- Blocking sets, from c empty and r = all: (1) if the nodes in neither c nor r hold a quorum, leaf. (2) If c blocks, list it if
  -- minimal; leaf. (3) v is the lowest node of r that is in the greatest quorum outside c; visit (c, r without v), then
  -- (c with v, r without v).
  unfoldable pub blocking_from : ℕ → ℕ → ℕ → Tree ℕ
  blocking_from zero c r = leaf
  blocking_from (suc most) c r =
      let m = r ∩ greatest n s nobody (everyone n ∖ c) in
      let v = only (lowest n m) in
      elim (holds_quorum n s nobody (everyone n ∖ (c ∪ r))) [
        | true ↦ leaf
        | false ↦ elim (blocking_set n s c) [
          | true ↦ found_if (minimal_blocking n s c) c
          | false ↦ elim (empty m) [
            | true ↦ unsplit
            | false ↦ fork (blocking_from most c (r ∖ v)) (blocking_from most (c ∪ v) (r ∖ v))
          ]
        ]
      ]

  unfoldable pub blocking_tree : Tree ℕ
  blocking_tree = blocking_from (suc n) nobody (everyone n)

-- ---- walking a tree: each visit counts one

-- How a walk ends that stops at the first find: with the find, or without one; or where there is no node to split on. The
-- number is the visits up to there.
pub data Walk (A : Type 0) : Type 0 where
  hit : A → ℕ → Walk A
  missed : ℕ → Walk A
  stuck : ℕ → Walk A

-- How a walk of a whole tree ends: with all finds in order, or where there is no node to split on.
pub data Listing (A : Type 0) : Type 0 where
  listed : List A → ℕ → Listing A
  broken : ℕ → Listing A

module _ {A : Type 0} where
  -- the same, k visits later
  abbrev pub later : ℕ → Walk A → Walk A
  later k (hit x j) = hit x (k + j)
  later k (missed j) = missed (k + j)
  later k (stuck j) = stuck (k + j)

  -- the visit that splits, the first walk below it, and where that finds nothing the second
  abbrev pub then_walk : Walk A → Walk A → Walk A
  then_walk (hit x k) w = hit x (suc k)
  then_walk (missed k) w = later (suc k) w
  then_walk (stuck k) w = stuck (suc k)

  unfoldable pub walk : Tree A → Walk A
  walk leaf = missed 1
  walk (found x) = hit x 1
  walk unsplit = stuck 1
  walk (fork x y) = then_walk (walk x) (walk y)

  abbrev pub then_list : Listing A → Listing A → Listing A
  then_list (listed l k) (listed m j) = listed (l ++ m) (suc k + j)
  then_list (listed l k) (broken j) = broken (suc k + j)
  then_list (broken k) m = broken (suc k)

  unfoldable pub list : Tree A → Listing A
  list leaf = listed [] 1
  list (found x) = listed (x ∷ []) 1
  list unsplit = broken 1
  list (fork x y) = then_list (list x) (list y)
