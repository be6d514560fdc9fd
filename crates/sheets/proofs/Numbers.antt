-- Every fault has a number above 0, so the number 0 is given only where the lines are good, the records sound and the room enough.
use Prim.Native.Nat.{ℕ, zero, suc, ◌≤◌, ◌<◌}
use native.Mathlib.Omega.{arith}
use mathlib.Core.Path.{◌≡◌, refl, ap, ◌∙◌}
use mathlib.Core.Logic.{⊎_elim}
use mathlib.Core.List.{List, [], ◌∷◌, ◌++◌}
use borrow.Author.Tests.{lt-ltb}
use lib.ListN.{length, drop}
use Rattle.decimal.proofs.Order.{lt-or-le}
use Rattle.meanings.specs.Faults.{Check, sound, fault, check, check_lines}
use Rattle.meanings.specs.Replies.{reply, ◌is◌, Place}
use Rattle.meanings.specs.Questions.{on_check}
use Rattle.tables.proofs.Sound.{lines_sound}
use Rattle.faults.proofs.Numbers.{Numbered, lines_numbered}
use Rattle.lines.specs.Lines.{read_line}
use Rattle.lines.specs.declared.Line.{Line}
use Rattle.std.proofs.Common.{Option, Some, None}
use Rattle.sheets.specs.Sheets.{Taken, words, stops, on_taken, earlier, before, take_lines, sheet_lines, room_reply, read_reply, read_puts}
use Rattle.sheets.proofs.Taking.{no_more, one_too_many, bad_line, two, nought_at, good_line}
use Rattle.sheets.proofs.Noughts.{none_written}

-- ---- the numbers that stop the lines
abbrev StopsAbove : Taken → Type 0
StopsAbove x = (k p : ℕ) → x ≡ stops k p → 0 < k

words_above : (w : List ℕ) (x : ℕ) → StopsAbove (words w x)
words_above w x k p e = let z : ◌≡◌ {A = ℕ} 0 1 = cc in absurd (omega arith)

stops_above : (n q : ℕ) → 0 < n → StopsAbove (stops n q)
stops_above n q h k p e = let z : n ≡ k = cc in omega arith

before_above : (w : List ℕ) (x : ℕ) (y : Taken) → StopsAbove y → StopsAbove (before w x y)
before_above w x (words v y) h = words_above (w ++ v) (earlier x y)
before_above w x (stops n q) h = h

by_line : (left line : ℕ) (s : List ℕ) → ((s' : List ℕ) → StopsAbove (take_lines left (suc line) s')) → 0 < length s → (x : Option (Line × ℕ)) → read_line s ≡ x
    → StopsAbove (take_lines (suc left) line s)
by_line left line s h p None e = rw (bad_line left line s p e) (stops_above 12 line (omega arith))
by_line left line s h p (Some (x, k)) e =
    rw (good_line left line s x k e) (before_above (two x) (nought_at x line) (take_lines left (suc line) (drop k s)) (h (drop k s)))

none_above : (left line : ℕ) (s : List ℕ) → length s ≤ 0 → StopsAbove (take_lines left line s)
none_above left line s h = let z : length s ≡ 0 = omega arith in rw (no_more left line s z) (words_above [] 0)

lines_above : (left line : ℕ) (s : List ℕ) → StopsAbove (take_lines left line s)
lines_above zero line s =
    ⊎_elim (λ p. rw (one_too_many line s p) (stops_above 1 257 (omega arith))) (none_above zero line s) (lt-or-le 0 (length s))
lines_above (suc left) line s =
    ⊎_elim (λ p. by_line left line s (lines_above left (suc line)) p (read_line s) refl) (none_above (suc left) line s) (lt-or-le 0 (length s))

pub sheet_above : (s : List ℕ) (k p : ℕ) → sheet_lines s ≡ stops k p → 0 < k
unfolding sheet_lines
sheet_above s = lines_above 256 1 s

-- ---- what the number 0 tells
module _ (own : List ℕ) (room : ℕ) where
  room-zero : (room_reply own room).number ≡ 0 → length own ≤ room
  room-zero e =
      ⊎_elim (λ h. let z : ◌≡◌ {A = ℕ} 10 0 = rw (lt-ltb room (length own) h) at e in absurd (omega arith)) (λ h. h) (lt-or-le room (length own))

  pub check-zero : (c : Check) → Numbered c → (on_check c (room_reply own room)).number ≡ 0 → (c ≡ sound) × (length own ≤ room)
  check-zero sound n h = (refl, room-zero h)
  check-zero (fault k p) n h = let a = n k p refl in let z : k ≡ 0 = h in absurd (omega arith)

-- the reader answers: no line has a written 0, so the records are checked as those of a table are
pub record Answered (s : List ℕ) (room : ℕ) : Type 0 where
  pub lines : sheet_lines s ≡ words (read_puts s) 0
  pub records_sound : check (read_puts s) ≡ sound
  pub room-enough : length (read_puts s) ≤ room

puts_words : (s w : List ℕ) (x : ℕ) → sheet_lines s ≡ words w x → read_puts s ≡ w
unfolding read_puts
puts_words s w x e = rw e

module _ (s : List ℕ) (room : ℕ) where
  by_lines : (y : Taken) → sheet_lines s ≡ y
      → (on_taken y (λ k p. reply k (Place is p ∷ [])) (λ w x. on_check (check_lines x w) (room_reply w room))).number ≡ 0 → Answered s room
  by_lines (stops k p) e h = let a = sheet_above s k p e in let z : k ≡ 0 = h in absurd (omega arith)
  by_lines (words w x) e h =
      let z = check-zero w room (check_lines x w) (lines_numbered w x) h in
      let p = puts_words s w x e in
      record { lines = rw p (e ∙ ap (words w) (none_written s w x e z.0)); records_sound = rw p (lines_sound w x z.0); room-enough = rw p z.1 }

  pub answered : (read_reply s room).number ≡ 0 → Answered s room
  unfolding read_reply
  answered h = by_lines (sheet_lines s) refl h
