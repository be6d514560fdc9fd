-- SPECIFICATION 9: what the whole report of a sheet is, and what the operation that writes it promises.
use Rattle.std.specs.Prelude.{ℕ, ◌≤◌, ◌≡◌, cond, List, [], ◌++◌, eqb, take, Result}
use Rattle.meanings.specs.Of as of
use Rattle.sets.specs.Sets.{nobody}
use Rattle.meanings.specs.Replies.{Reply}
use Rattle.meanings.specs.Questions.{check_reply, verdict_reply, minimal_reply, blocking_reply}
use Rattle.answers.specs.Said.{wrote_says}
use Rattle.answers.specs.declared.Refusal.{Refusal}
use Rattle.replies.specs.declared.Reply.{Reply as Struct}
use Rattle.sheets.specs.Sheets.{read_reply, read_puts}
use Rattle.sheets.specs.Promises.{Put}
use Rattle.words.specs.Words as word
use Rattle.report_lines.specs.Lines.{refused_line, nodes_line, verdict_line, list_line, set_lines}
use Rattle.report_parts.specs.Parts.{following, list_text}

-- a list: its line, and its sets where it is answered; with 9, 10 or 13 no set lines follow
unfoldable pub list_part : (name letter : List ℕ) → Reply → List ℕ → List ℕ
list_part name letter r l = list_line name r ++ cond (eqb r.number 0) (set_lines letter l) []

-- each of the three questions has this allowance, and the sets of a list have this room
abbrev pub allowance : ℕ
allowance = 1000000

abbrev pub room : ℕ
room = 1024

-- the most words that a sheet can come to
abbrev pub most_words : ℕ
most_words = 512

-- the minimal quorums and the minimal blocking sets of a table
unfoldable pub minimal_part : (table : List ℕ) → List ℕ
minimal_part t = list_part word.minimal word.q (minimal_reply t allowance room) (of.minimal_quorums t)

unfoldable pub blocking_part : (table : List ℕ) → List ℕ
blocking_part t = list_part word.blocking word.b (blocking_reply t allowance room) (of.minimal_blocking_sets t)

-- what the report on a table starts with: its nodes and records, and the verdict
unfoldable pub head_part : (table : List ℕ) → List ℕ
head_part t = nodes_line (check_reply t) ++ verdict_line (verdict_reply t nobody allowance)

-- the report on a table
unfoldable pub report_on : (table : List ℕ) → List ℕ
report_on t = head_part t ++ (minimal_part t ++ blocking_part t)

-- The report on a sheet: one line for a bad one, otherwise that on the table it reads to.
unfoldable pub report_of : (sheet : List ℕ) → List ℕ
report_of s = cond (eqb (read_reply s most_words).number 0) (report_on (read_puts s)) (refused_line (read_reply s most_words))

-- The whole report at the front of a lent buffer; 10 with the bytes needed where it is too short. A bad sheet's report is its one line.
abbrev pub ReportPromise : (sheet before after : List ℕ) → Result ℕ Refusal → Type 0
ReportPromise sheet before after r = Put (report_of sheet) before after (wrote_says r)

-- a list's answer, with the sets that follow its line, comes to its part of the report
pub record Part (name letter whole : List ℕ) (r : Struct) (sets : List ℕ) : Type 0 where
  pub few : following r ≤ 1024
  pub comes : list_text name letter r (take (following r) sets) ≡ whole
