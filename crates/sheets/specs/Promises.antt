-- What each operation promises: what it answers, and what the lent buffer holds afterwards.
use Rattle.std.specs.Prelude.{ℕ, ◌+◌, ◌*◌, ◌≡◌, List, [], ◌∷◌, length, take, set, Result, Ok, IsErrAnd}
use Rattle.meanings.specs.Replies.{Reply, reply, ◌is◌, Place, Lent}
use Rattle.answers.specs.Said.{refusal_says, read_says, wrote_says}
use Rattle.answers.specs.declared.Refusal.{Refusal}
use Rattle.sheets.specs.declared.Lines.{Lines}
use Rattle.sheets.specs.Sheets.{Taken, words, stops, sheet_text, room_reply, read_reply, read_puts, write_reply}

-- a sheet is read into a lent list
abbrev pub ReadPromise : (sheet before after : List ℕ) → Result ℕ Refusal → Type 0
ReadPromise sheet before after r = Lent (read_says r) (read_reply sheet (length before)) (read_puts sheet) before after

-- a table is written as a sheet into a lent buffer
abbrev pub WritePromise : (table before after : List ℕ) → Result ℕ Refusal → Type 0
WritePromise table before after r = Lent (wrote_says r) (write_reply table (length before)) (sheet_text table) before after

-- what is to be put is put where there is room
abbrev pub Put : (own before after : List ℕ) → Reply → Type 0
Put own before after said = Lent said (room_reply own (length before)) own before after

-- taking the lines of a sheet tells the first fault, or counts the words, which then stand at the front, and tells the first line whose threshold is a
-- written 0
abbrev pub Takes : Taken → (after : List ℕ) → Result Lines Refusal → Type 0
Takes (stops k p) after r = IsErrAnd r (λ e. refusal_says e ≡ reply k (Place is p ∷ []))
Takes (words w first) after r = (r ≡ Ok (record { count = length w; nought = first })) × (take (length w) after ≡ w)

-- the words o with the record of a line behind those of r lines
abbrev pub with_record : (o : List ℕ) (r level threshold members : ℕ) → List ℕ
with_record o r level threshold members = set (set o (2 * r) (threshold + 256 * level)) (2 * r + 1) members
