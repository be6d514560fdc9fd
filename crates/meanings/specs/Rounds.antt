-- SPECIFICATION 3: the rounds that come with the greatest quorum.
use Rattle.std.specs.Prelude.{Bool, true, false, ◌&&◌, ◌||◌, ℕ, zero, suc, eqb}
use Rattle.sets.specs.Sets.{has, nobody, ◌∪◌, ◌∖◌, empty, set_of}

module _ (n : ℕ) (s : ℕ → ℕ → Bool) (d : ℕ) where
  -- A round drops, all at once, every node that those present (d added) do not satisfy.
  unfoldable pub round : ℕ → ℕ
  round u = set_of n (λ v. has u v && s (u ∪ d) v)

  -- The last round is the first that drops nothing or leaves nothing.
  unfoldable pub last_round : ℕ → Bool
  last_round u = eqb (round u) u || empty (round u)

  -- how many rounds those present go through, and who is left; `most` bounds the rounds, and n of them are enough
  unfoldable pub rounds_from : ℕ → ℕ → ℕ
  rounds_from zero u = 0
  rounds_from (suc most) u = elim (last_round u) [ true ↦ 1 | false ↦ suc (rounds_from most (round u)) ]

  unfoldable pub left_from : ℕ → ℕ → ℕ
  left_from zero u = nobody
  left_from (suc most) u = elim (last_round u) [ true ↦ round u | false ↦ left_from most (round u) ]

  -- Nodes of u in d are ignored. For no node to start with there is no round.
  unfoldable pub rounds : ℕ → ℕ
  rounds u = elim (empty (u ∖ d)) [ true ↦ 0 | false ↦ rounds_from n (u ∖ d) ]

  unfoldable pub survivors : ℕ → ℕ
  survivors u = elim (empty (u ∖ d)) [ true ↦ nobody | false ↦ left_from n (u ∖ d) ]
