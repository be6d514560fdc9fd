-- Sets of nodes. A set is written as a number: node i is in it where digit i, of value 2 ^ i, is 1.
-- The meanings go by these operations alone; words, texts and bounds show that it is a number.
use Rattle.std.specs.Prelude.{Bool, true, false, not, ◌&&◌, ℕ, zero, suc, ◌+◌, ◌-◌, ◌/◌, ◌%◌, ◌^◌, eqb}
use Rattle.std.specs.Int.Bits.{bit_and, bit_or, bit_xor}
use Rattle.std.specs.Int.Count.{count_trailing_zeros}

infixl 60 ◌∪◌
infixl 70 ◌∩◌
infixl 70 ◌∖◌
-- whether node i is in m
unfoldable pub has : ℕ → ℕ → Bool
has m i = eqb (m / 2 ^ i % 2) 1

-- the set with no node, the set of nodes 0 to n - 1, and the set of node i alone
abbrev pub nobody : ℕ
nobody = 0

unfoldable pub everyone : ℕ → ℕ
everyone n = 2 ^ n - 1

abbrev pub only : ℕ → ℕ
only i = 2 ^ i

-- the nodes in either, the nodes in both, and the nodes of the first that are not in the second
abbrev pub ◌∪◌ : ℕ → ℕ → ℕ
a ∪ b = bit_or a b

abbrev pub ◌∩◌ : ℕ → ℕ → ℕ
a ∩ b = bit_and a b

unfoldable pub ◌∖◌ : ℕ → ℕ → ℕ
a ∖ b = bit_xor a (bit_and a b)

-- how many of the nodes 0 to n - 1 are in m
unfoldable pub size : ℕ → ℕ → ℕ
size zero m = 0
size (suc n) m = m % 2 + size n (m / 2)

-- the lowest of the nodes 0 to n - 1 that is in m, or n where there is none
abbrev pub lowest : ℕ → ℕ → ℕ
lowest n m = count_trailing_zeros n m

-- whether a set has no node; whether each node of a is in b; the same, a not being b; whether a and b have a node in common
abbrev pub empty : ℕ → Bool
empty m = eqb m nobody

unfoldable pub within : ℕ → ℕ → Bool
within a b = eqb (a ∩ b) a

unfoldable pub smaller : ℕ → ℕ → Bool
smaller a b = within a b && not (eqb a b)

unfoldable pub meets : ℕ → ℕ → Bool
meets a b = not (empty (a ∩ b))

-- the set of those of the nodes 0 to n - 1 that a test picks
abbrev pub put : Bool → ℕ → ℕ → ℕ
put true p m = p + m
put false p m = m

unfoldable pub set_of : ℕ → (ℕ → Bool) → ℕ
set_of zero f = nobody
set_of (suc n) f = put (f n) (only n) (set_of n f)

-- whether a test holds of each node of u, of the nodes 0 to n - 1
unfoldable pub each : ℕ → ℕ → (ℕ → Bool) → Bool
each n u f = within u (set_of n f)
