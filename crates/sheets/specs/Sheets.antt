-- SPECIFICATION 2 and 7: the text of a table, and what a sheet's lines come to.
use Rattle.std.specs.Prelude.{ℕ, zero, suc, ◌+◌, ◌*◌, ◌/◌, ◌%◌, cond, List, [], ◌∷◌, ◌++◌, eqb, length, drop}
use Rattle.meanings.specs.Faults.{check, check_lines}
use Rattle.meanings.specs.Replies.{Reply, reply, ◌is◌, Place, Count}
use Rattle.meanings.specs.Questions.{on_check, in_room}
use Rattle.decimal.specs.Decimal.{on_read}
use Rattle.lines.specs.Lines.{line_text, read_line, given, is_nought}

-- One record a line, each line ended by LF. A record is its control word, threshold + 256 x level, and its members.
unfoldable pub sheet_text : List ℕ → List ℕ
sheet_text [] = []
sheet_text (control ∷ []) = []
sheet_text (control ∷ members ∷ t) = line_text (control / 256) (control % 256) members ++ sheet_text t

-- What a sheet's lines come to: the words of their records, with the first line whose threshold is a written 0, or 0 where there is none; or the first
-- fault's number and place.
pub data Taken : Type 0 where
  words : (w : List ℕ) (nought : ℕ) → Taken
  stops : ℕ → ℕ → Taken

abbrev pub on_taken : {A : Type 0} → Taken → (ℕ → ℕ → A) → (List ℕ → ℕ → A) → A
on_taken (stops k p) f g = f k p
on_taken (words w nought) f g = g w nought

-- line x, or line y where x is 0, which is none
abbrev pub earlier : ℕ → ℕ → ℕ
earlier zero y = y
earlier (suc x) y = suc x

-- words that stand before those of the lines that follow, and the first written 0 among theirs
abbrev pub before : List ℕ → ℕ → Taken → Taken
before w x (words v y) = words (w ++ v) (earlier x y)
before w x (stops k p) = stops k p

-- The lines of s are taken in turn, each from where the one before ended, and the first fault decides: a malformed line gives 12,
-- and any byte where no line is left to take gives 1. The next line is counted `line`.
unfoldable pub take_lines : (left line : ℕ) → List ℕ → Taken
take_lines zero line s = cond (eqb (length s) 0) (words [] 0) (stops 1 257)
take_lines (suc left) line s =
    cond (eqb (length s) 0) (words [] 0)
    (on_read (read_line s) (stops 12 line)
    (λ x used.
    before ((given x.threshold + 256 * x.level) ∷ x.members ∷ []) (cond (is_nought x.threshold) line 0) (take_lines left (suc line) (drop used s))))

-- a sheet has at most 256 lines, counted from 1
unfoldable pub sheet_lines : List ℕ → Taken
sheet_lines s = take_lines 256 1 s

-- own words or bytes are put into a lent buffer of so much room, or 10 tells how many are needed
abbrev pub room_reply : (own : List ℕ) (room : ℕ) → Reply
room_reply own room = in_room room (length own) (reply 0 (Count is length own ∷ []))

-- Read a sheet into a lent list of so many words: the lines, then the numbers 1 to 7 of their records, a written 0 giving 5, and 10 last. An empty sheet
-- has no record, which is what its check finds.
unfoldable pub read_reply : (sheet : List ℕ) (room : ℕ) → Reply
read_reply s room = on_taken (sheet_lines s) (λ k p. reply k (Place is p ∷ [])) (λ w nought. on_check (check_lines nought w) (room_reply w room))

-- the words that it puts at the front, where it answers
unfoldable pub read_puts : (sheet : List ℕ) → List ℕ
read_puts s = on_taken (sheet_lines s) (λ k p. []) (λ w nought. w)

-- Write a table as a sheet into a lent buffer of so many bytes, and the bytes are its text: numbers 1 to 7 first, 10 last.
unfoldable pub write_reply : (table : List ℕ) (room : ℕ) → Reply
write_reply t room = on_check (check t) (room_reply (sheet_text t) room)
