-- SPECIFICATION 9: what each line of the report is, to the byte, as a function of what was answered.
use Rattle.std.specs.Prelude.{ℕ, ◌≡◌, cond, List, [], ◌∷◌, ◌++◌, eqb, length}
use Rattle.decimal.specs.Decimal.{numeral}
use Rattle.members.specs.Members.{member_text}
use Rattle.meanings.specs.Replies.{Reply, value, Place, Nodes, Records, Answer, First, Second, Count, Visits}
use Rattle.fields.specs.Fields.{row, line_of}
use Rattle.fields.specs.declared.Field.{Field}
use Rattle.words.specs.Words as word

-- a bad sheet: number and place
unfoldable pub refused_line : Reply → List ℕ
refused_line r = row (word.refused ∷ numeral r.number ∷ numeral (value r Place) ∷ [])

-- the nodes, and the count of records
unfoldable pub nodes_line : Reply → List ℕ
nodes_line r = row (word.nodes ∷ numeral (value r Nodes) ∷ word.sets ∷ numeral (value r Records) ∷ [])

-- yes or no where the question is answered, and a hyphen where it is not
unfoldable pub answer_text : Reply → List ℕ
answer_text r = cond (eqb r.number 0) (cond (eqb (value r Answer) 1) word.yes word.no) word.none

-- The verdict: number, answer, visits and the two sets. A set that is not named is 0, which prints as a hyphen.
unfoldable pub verdict_line : Reply → List ℕ
verdict_line r =
    row (
    word.verdict
    ∷ numeral r.number
    ∷ answer_text r
    ∷ numeral (value r Visits)
    ∷ member_text (value r First)
    ∷ member_text (value r Second)
    ∷ [])

-- The minimal quorums or blocking sets: number, count, visits. With 9 the count is 0, and with 10 the visits are: they are not named.
unfoldable pub list_line : (name : List ℕ) → Reply → List ℕ
list_line name r = row (name ∷ numeral r.number ∷ numeral (value r Count) ∷ numeral (value r Visits) ∷ [])

-- a set of a list, printed as on a sheet
unfoldable pub set_line : (letter : List ℕ) → ℕ → List ℕ
set_line letter s = row (letter ∷ member_text s ∷ [])

-- the sets of a list, a line for each
unfoldable pub set_lines : (letter : List ℕ) → List ℕ → List ℕ
set_lines letter [] = []
set_lines letter (s ∷ l) = set_line letter s ++ set_lines letter l

-- so many fields come to the text of a line
pub record Fields (count : ℕ) (fields : List Field) (text : List ℕ) : Type 0 where
  pub long : count ≡ length fields
  pub comes : line_of fields ≡ text
