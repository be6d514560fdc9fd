-- The report on what a sheet was read to is the report on that sheet.
use Prim.Native.Nat.{ℕ}
use native.Mathlib.Omega.{arith}
use mathlib.Core.Path.{◌≡◌, refl, sym, ap, ◌∙◌}
use mathlib.Core.List.{List}
use lib.ListN.{length, take}
use lib.Seq.{length-take-le}
use Rattle.answers.specs.Said.{read_says}
use Rattle.std.specs.Prelude.{Result, Ok, Err}
use Rattle.answers.specs.declared.Refusal.{Refusal}
use Rattle.sheets.specs.Promises.{ReadPromise}
use Rattle.intake.specs.Intake.{WasRead}
use Rattle.report_lines.specs.Lines.{refused_line}
use Rattle.report.specs.Report.{report_of, report_on}
use Rattle.report.proofs.Parts.{refusal_some}
use Rattle.report.proofs.Whole.{reads, words_within, table_read}
use Rattle.printing.specs.Printing.{report_from}

pub from_sheet : (r : Result ℕ Refusal) (words : List ℕ) (w : WasRead r words) → report_from r words ≡ report_of w.sheet
unfolding report_from report_of
from_sheet (Ok count) words w = rw ((w.puts count refl).0, ← w.says) refl
from_sheet (Err e) words w = rw (← w.says, refusal_some e) refl

-- what refuses a sheet, as the code learns it
pub from-refused : (r : Result ℕ Refusal) (words : List ℕ) (e : Refusal) → r ≡ Err e → report_from r words ≡ refused_line (read_says r)
unfolding report_from
from-refused r words e h = rw h

-- the words that were counted
pub from_words : (words : List ℕ) (count : ℕ) → report_on (take count words) ≡ report_from (Ok count) words
unfolding report_from
from_words words count = refl

pub words_sheet : (r : Result ℕ Refusal) (words : List ℕ) (w : WasRead r words) (count : ℕ) → r ≡ Ok count → report_from (Ok count) words ≡ report_of w.sheet
words_sheet r words w count e = ap (λ (x : Result ℕ Refusal). report_from x words) (sym e) ∙ from_sheet r words w

pub words_in : (r : Result ℕ Refusal) (words : List ℕ) (w : WasRead r words) (count : ℕ) → r ≡ Ok count → count ≡ length (take count words)
words_in r words w count e = sym (length-take-le count words (w.puts count e).1)

-- a sheet that was read at once
pub was_read : (s before after : List ℕ) (r : Result ℕ Refusal) → ReadPromise s before after r → length before ≡ 512 → length after ≡ 512 → WasRead r after
was_read s before after r p n l =
    record {
      sheet = s;
      says = reads s before after r p n;
      puts = λ count e. let h = words_within s before after r p n count e in (table_read s before after r p n count e, omega arith);
    }

pub read_sheet : (s before after : List ℕ) (r : Result ℕ Refusal) (p : ReadPromise s before after r) (n : length before ≡ 512) (l : length after ≡ 512) → (was_read s before after r p n l).sheet ≡ s
unfolding was_read
read_sheet s before after r p n l = refl
