-- A line of fields: a fixed word, a number or a set of nodes each, with tabs between them and ended by LF.
use Rattle.std.specs.Prelude.{ℕ, ◌+◌, ◌≤◌, ◌≡◌, length, cond, List, [], ◌∷◌, ◌++◌, eqb, ltb}
use Rattle.decimal.specs.Decimal.{numeral}
use Rattle.members.specs.Members.{member_text}
use Rattle.words.specs.Words.{word_text, numbered_text}
use Rattle.fields.specs.declared.Field.{Field}
use Rattle.fields.specs.declared.Field.TheVariants as Fx

-- the texts of the fields with tabs between them, ended by LF
unfoldable pub row : List (List ℕ) → List ℕ
row [] = []
row (w ∷ []) = w ++ 10 ∷ []
row (w ∷ v ∷ ws) = w ++ 9 ∷ row (v ∷ ws)

-- ---- the text of a field: a set is printed as on a sheet
abbrev pub field_text : Field → List ℕ
field_text (Fx.Fixed w) = word_text w
field_text (Fx.Number n) = numeral n
field_text (Fx.Set s) = member_text s

-- the text of a field by its numbers: kind 0 is a word, 1 a number, 2 a set; any other kind has no text
unfoldable pub kind_text : ℕ → ℕ → List ℕ
kind_text kind x = cond (eqb kind 0) (numbered_text x) (cond (eqb kind 1) (numeral x) (cond (eqb kind 2) (member_text x) []))

unfoldable pub texts : List Field → List (List ℕ)
texts [] = []
texts (field ∷ l) = field_text field ∷ texts l

-- the line
unfoldable pub line_of : List Field → List ℕ
line_of l = row (texts l)

-- what stands behind field i of so many: the tab that parts it from the next, or LF behind the last
unfoldable pub end_at : (count i : ℕ) → ℕ
end_at n i = cond (ltb (i + 1) n) 9 10

-- a text and the byte behind it
unfoldable pub ended : List ℕ → ℕ → List ℕ
ended w e = w ++ e ∷ []

-- a count is the length of the text, and within a bound, so that the counts of several texts can be added
pub record Counted (text : List ℕ) (most count : ℕ) : Type 0 where
  pub long : count ≡ length text
  pub within : count ≤ most
