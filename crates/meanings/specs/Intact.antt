-- SPECIFICATION 6: the rounds that find the intact nodes, and the sum of their visits. Which nodes are intact stands in Quorums.
use Rattle.std.specs.Prelude.{Bool, true, false, ℕ, zero, suc, ◌+◌}
use Rattle.sets.specs.Sets.{nobody, everyone, ◌∩◌, ◌∖◌, empty}
use Rattle.meanings.specs.Quorums.{greatest}
use Rattle.meanings.specs.Trees.{Pair, Walk, hit, missed, stuck, walk, verdict_tree}

-- How an intact question ends: with the set of intact nodes; or at the plain verdict, with two disjoint quorums; or where a
-- search has no node to split on. The number is the visits of all verdicts up to there.
pub data Ended : Type 0 where
  intact_are : ℕ → ℕ → Ended
  divided : Pair → ℕ → Ended
  stuck_after : ℕ → Ended

-- the same, k visits later
abbrev pub ended_later : ℕ → Ended → Ended
ended_later k (intact_are q j) = intact_are q (k + j)
ended_later k (divided p j) = divided p (k + j)
ended_later k (stuck_after j) = stuck_after (k + j)

module _ (n : ℕ) (s : ℕ → ℕ → Bool) where
  abbrev pub verdict : ℕ → Walk Pair
  verdict d = walk (verdict_tree n s d)

  -- W1, W2 are the greatest plain quorums in q without q1 and in q without q2; the next u is W2 if W1 is empty, W1 if W2 is
  -- empty, otherwise what they share.
  unfoldable pub next_u : ℕ → Pair → ℕ
  next_u q p =
      let w1 = greatest n s nobody (q ∖ p.first) in
      let w2 = greatest n s nobody (q ∖ p.second) in
      elim (empty w1) [ true ↦ w2 | false ↦ elim (empty w2) [ true ↦ w1 | false ↦ w1 ∩ w2 ] ]

  -- what a round comes to, by its verdict: yes, and q is the answer; no with a pair, and the rounds from the next u on
  abbrev pub on_round : ℕ → Walk Pair → (Pair → Ended) → Ended
  on_round q (missed k) next = intact_are q k
  on_round q (hit p k) next = ended_later k (next p)
  on_round q (stuck k) next = stuck_after k

  -- The rounds from u on: q is the greatest plain quorum in u; a verdict with all but q counted out. `most` bounds the rounds.
  unfoldable pub rounds_from : ℕ → ℕ → Ended
  rounds_from zero u = intact_are nobody 0
  rounds_from (suc most) u =
      let q = greatest n s nobody u in
      on_round q (verdict (everyone n ∖ q)) (λ p. rounds_from most (next_u q p))

  -- A plain verdict first. Then rounds, with u all nodes outside b at first.
  abbrev pub on_plain : Walk Pair → Ended → Ended
  on_plain (missed k) rounds = ended_later k rounds
  on_plain (hit p k) rounds = divided p k
  on_plain (stuck k) rounds = stuck_after k

  unfoldable pub intact_search : ℕ → Ended
  intact_search b = on_plain (verdict nobody) (rounds_from (suc n) (everyone n ∖ b))
