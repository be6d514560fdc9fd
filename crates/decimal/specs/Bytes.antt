-- What a writer answers, and what it leaves in the bytes that it was lent.
use Rattle.std.specs.Prelude.{ℕ, ◌≡◌, List, ◌++◌, length, drop}

-- w at the front of d, and the rest of d as before
abbrev pub at_front : List ℕ → List ℕ → List ℕ
at_front w d = w ++ drop (length w) d

-- lent the bytes d, a writer of w answers n and leaves o
pub record Written (w d o : List ℕ) (n : ℕ) : Type 0 where
  pub count : n ≡ length w
  pub bytes : o ≡ at_front w d
