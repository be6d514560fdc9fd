-- The parts of a report, as they are written from the structs of the replies and the sets that were listed.
use Rattle.std.specs.Prelude.{ℕ, ◌≡◌, cond, List, ◌++◌, eqb}
use Rattle.replies.specs.declared.Reply.{Reply as Struct}
use Rattle.replies.specs.Shows.{told}
use Rattle.words.specs.declared.Word.{Word}
use Rattle.words.specs.Words.{word_text}
use Rattle.report_lines.specs.Lines.{nodes_line, verdict_line, list_line, set_lines}
use Rattle.report_parts.specs.declared.list_part.ListPart.{ListPart}

-- how many of a list's sets follow its line, and the list with the sets that do
unfoldable pub following : Struct → ℕ
following r = cond (eqb r.number 0) r.count 0

unfoldable pub list_text : (name letter : List ℕ) → Struct → (sets : List ℕ) → List ℕ
list_text name letter r sets = list_line name (told r) ++ set_lines letter sets

-- the lines of the nodes and the verdict
unfoldable pub head_text : (checked verdict : Struct) → List ℕ
head_text c v = nodes_line (told c) ++ verdict_line (told v)

-- a list by its words, its reply and its sets, and its text
pub record IsListOf (name letter : Word) (reply : Struct) (sets : List ℕ) (list : ListPart) : Type 0 where
  pub named : list.name ≡ name
  pub lettered : list.letter ≡ letter
  pub replied : list.reply ≡ reply
  pub follows : list.sets.now ≡ sets

unfoldable pub text_of : ListPart → List ℕ
text_of l = list_text (word_text l.name) (word_text l.letter) l.reply l.sets.now

-- a report's three parts, one after the other
unfoldable pub all_text : (checked verdict : Struct) → (quorums blocks : ListPart) → List ℕ
all_text c v quorums blocks = head_text c v ++ (text_of quorums ++ text_of blocks)
