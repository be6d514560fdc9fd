-- Lists and a test: what passes it, whether all or some pass it.
use Rattle.std.specs.Prelude.{Bool, true, false, ◌&&◌, ◌||◌, List, [], ◌∷◌, ℕ, zero, suc}

module _ {A : Type 0} where
  -- x before the list, where it passes
  abbrev pub cons_if : Bool → A → List A → List A
  cons_if true x l = x ∷ l
  cons_if false x l = l

  -- those of a list that pass, in the list's order
  unfoldable pub keep : (A → Bool) → List A → List A
  keep p [] = []
  keep p (x ∷ l) = cons_if (p x) x (keep p l)

  unfoldable pub all : (A → Bool) → List A → Bool
  all p [] = true
  all p (x ∷ l) = p x && all p l

  unfoldable pub some : (A → Bool) → List A → Bool
  some p [] = false
  some p (x ∷ l) = p x || some p l

-- the n numbers from a on
unfoldable pub from : ℕ → ℕ → List ℕ
from a zero = []
from a (suc n) = a ∷ from (suc a) n
