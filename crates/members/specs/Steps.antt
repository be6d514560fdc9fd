-- What the writer of member lists writes for one node.
use Rattle.std.specs.Prelude.{ℕ, ◌/◌, ◌%◌, cond, List, [], ◌∷◌, ◌++◌, eqb}
use Rattle.decimal.specs.Decimal.{numeral}

-- node i, where q is what is left of the set and its lowest bit stands for i: the id if it is in, with a comma if others follow
unfoldable pub id_text : ℕ → ℕ → List ℕ
id_text i q = cond (eqb (q % 2) 0) [] (cond (eqb (q / 2) 0) (numeral i) (numeral i ++ 44 ∷ []))
