-- A sheet is read as it comes in, through a window of 512 bytes. Which bytes the system hands over, and that all of them are asked for, no contract
-- can say. What is promised: what a read's answer is taken to mean, that no byte in hand is lost, that the lines in hand are taken one behind the
-- other, and that none is judged that bytes behind it could alter, unless the input is said to have ended.
use Rattle.std.specs.Prelude.{ℕ, ◌+◌, ◌-◌, ◌*◌, ◌≤◌, ◌≡◌, Bool, true, false, List, [], ◌∷◌, ◌++◌, ltb, length, take, Result, Ok, Err}
use Rattle.std.specs.declared.io.Error.{Error}
use Rattle.answers.specs.Said.{read_says}
use Rattle.answers.specs.declared.Refusal.{Refusal}
use Rattle.meanings.specs.Faults.{check_lines}
use Rattle.meanings.specs.Replies.{reply, ◌is◌, Count}
use Rattle.meanings.specs.Questions.{on_check}
use Rattle.sheets.specs.Sheets.{take_lines, sheet_lines, before, read_reply, read_puts}
use Rattle.sheets.specs.Promises.{Takes}
use Rattle.sheets.specs.declared.Lines.{Lines}
use Rattle.intake.specs.declared.Window.{Window}
use Rattle.intake.specs.declared.Heard.{Heard}

-- what is read behind so many bytes has room in the window, and what it comes to: a window that was not filled is the last
abbrev pub FitsIn : (len : ℕ) → Result ℕ Error → Type 0
FitsIn len (Ok count) = len + count ≤ 512
FitsIn len (Err error) = Unit {0}

abbrev pub filled_is : (len : ℕ) → Result ℕ Error → Result Window Error
filled_is len (Ok count) = Ok (record { count = len + count; ended = ltb (len + count) 512 })
filled_is len (Err error) = Err error

-- The first bytes of the window are kept, and more may stand behind them: as many as the longest line has, unless the input is said to
-- have ended.
abbrev pub Widens : (len : ℕ) (before after : List ℕ) → Result Window Error → Type 0
Widens len b a (Ok w) = (len ≤ w.count) × (w.count ≤ 512) × (length a ≡ 512) × (take len a ≡ take len b) × (w.ended ≡ false → 188 ≤ w.count)
Widens len b a (Err error) = Unit {0}

-- The records of the lines before a window stand at the front of o, and the lines from the window on are still to be taken, whatever follows it. The
-- first of those before whose threshold is a written 0 is `nought`.
pub record UpTo (o window : List ℕ) (r nought : ℕ) : Type 0 where
  pub past : List ℕ
  pub lines : (rest : List ℕ) → sheet_lines (past ++ (window ++ rest)) ≡ before (take (2 * r) o) nought (take_lines (256 - r) (r + 1) (window ++ rest))

-- The lines of a sheet are taken: so they are whatever follows it, and nothing does where the input is said to have ended.
pub record Took (o : List ℕ) (lines : Result Lines Refusal) (ended : Bool) : Type 0 where
  pub sheet : List ℕ
  pub takes : (rest : List ℕ) → (ended ≡ true → rest ≡ []) → Takes (sheet_lines (sheet ++ rest)) o lines

abbrev pub Hears : (after : List ℕ) → Result Heard Error → Type 0
Hears a (Ok h) = Took a h.lines h.ended
Hears a (Err error) = Unit {0}

-- so many words stand at the front of a list of so many
abbrev pub Reaches : Result Lines Refusal → ℕ → Type 0
Reaches (Ok l) room = l.count ≤ room
Reaches (Err e) room = Unit {0}

-- what the lines come to is judged: a fault of theirs, or of their records, or how many words they are
abbrev pub Judges : Result Lines Refusal → (words : List ℕ) → Result ℕ Refusal → Type 0
Judges (Ok l) w r = read_says r ≡ on_check (check_lines l.nought (take l.count w)) (reply 0 (Count is l.count ∷ []))
Judges (Err e) w r = r ≡ Err e

-- The answer to reading some sheet, whose words stand at the front where it is good.
pub record WasRead (r : Result ℕ Refusal) (table : List ℕ) : Type 0 where
  pub sheet : List ℕ
  pub says : read_says r ≡ read_reply sheet 512
  pub puts : (count : ℕ) → r ≡ Ok count → (take count table ≡ read_puts sheet) × (count ≤ length table)

abbrev pub TakesIn : (after : List ℕ) → Result (Result ℕ Refusal) Error → Type 0
TakesIn a (Ok r) = WasRead r a
TakesIn a (Err error) = Unit {0}
