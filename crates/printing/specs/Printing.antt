-- No contract can say which bytes the system writes. What is promised is where in the report each part that is handed over stands, and how
-- many bytes of the report have been handed over behind it.
use Rattle.std.specs.Prelude.{ℕ, ◌+◌, ◌≤◌, ◌≡◌, List, ◌++◌, length, take, Result, Ok, Err}
use Rattle.std.specs.declared.io.Error.{Error}
use Rattle.answers.specs.Said.{refusal_says}
use Rattle.answers.specs.declared.Refusal.{Refusal}
use Rattle.report_lines.specs.Lines.{refused_line}
use Rattle.report.specs.Report.{report_on}

-- the part stands in the text, behind its first `at` bytes
pub record Stands (text : List ℕ) (at : ℕ) (part : List ℕ) : Type 0 where
  pub before : List ℕ
  pub after : List ℕ
  pub whole : text ≡ before ++ (part ++ after)
  pub place : at ≡ length before

-- Behind `at` bytes a part is handed over: so many are handed over then, and the part is no longer than `most`, so that several can be
-- added. Where a write fails nothing is counted.
unfoldable pub Handed : (part : List ℕ) (at most : ℕ) → Result ℕ Error → Type 0
Handed part at most (Ok to) = (to ≡ at + length part) × (to ≤ at + most)
Handed part at most (Err error) = Unit {0}

-- all of a text is handed over, unless a write fails
unfoldable pub All : (text : List ℕ) → Result ℕ Error → Type 0
All text (Ok to) = to ≡ length text
All text (Err error) = Unit {0}

-- what is counted of so many bytes: all, if they were taken
unfoldable pub counted_is : {T : Type 0} (taken : Result T Error) (bytes : ℕ) → Result ℕ Error
counted_is (Ok done) bytes = Ok bytes
counted_is (Err error) bytes = Err error

-- The report on what a sheet was read to: the words of a good one at the front of a list, or the answer that refuses it.
unfoldable pub report_from : Result ℕ Refusal → (words : List ℕ) → List ℕ
report_from (Ok count) words = report_on (take count words)
report_from (Err refusal) words = refused_line (refusal_says refusal)
