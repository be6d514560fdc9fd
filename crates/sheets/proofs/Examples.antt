-- Trio as a sheet, and sheets on both sides of each rule of reading. Each is a computation.
use Prim.Native.Nat.{ℕ}
use mathlib.Core.Path.{◌≡◌, refl}
use mathlib.Core.List.{List, [], ◌∷◌, ◌++◌}
use Rattle.decimal.specs.Decimal.{digits, numeral, digit_of, digit_at, number_of, read_number}
use Rattle.members.specs.Members.{nodes_from, with_commas, member_text, read_id, join, read_ids, read_members}
use Rattle.lines.specs.Lines.{field_text, threshold_text, last_text, line_text, read_field, read_threshold, read_last, read_line}
use Rattle.meanings.specs.Replies.{reply, ◌is◌, Place, Count}
use Rattle.meanings.specs.Rows.{computing}
use Rattle.sheets.specs.Sheets.{stops, take_lines, sheet_lines, sheet_text, read_reply, read_puts, write_reply}

-- 0 2 0,1,2
abbrev trio_line : List ℕ
trio_line = 48 ∷ 9 ∷ 50 ∷ 9 ∷ 48 ∷ 44 ∷ 49 ∷ 44 ∷ 50 ∷ 10 ∷ []

abbrev trio : List ℕ
trio = trio_line ++ (trio_line ++ trio_line)

-- 0 ? -, and with a written 0, with a member and at level 1
abbrev unknown_line : List ℕ
unknown_line = 48 ∷ 9 ∷ 63 ∷ 9 ∷ 45 ∷ 10 ∷ []

abbrev nought_line : List ℕ
nought_line = 48 ∷ 9 ∷ 48 ∷ 9 ∷ 45 ∷ 10 ∷ []

abbrev member_line : List ℕ
member_line = 48 ∷ 9 ∷ 63 ∷ 9 ∷ 48 ∷ 10 ∷ []

abbrev inner_line : List ℕ
inner_line = 49 ∷ 9 ∷ 63 ∷ 9 ∷ 45 ∷ 10 ∷ []

-- 2 1 0: two levels too deep behind a line of level 0
abbrev deep_line : List ℕ
deep_line = 50 ∷ 9 ∷ 49 ∷ 9 ∷ 48 ∷ 10 ∷ []

pub record Examples : Type 0 where
  pub trio_read : read_reply trio 6 ≡ reply 0 (Count is 6 ∷ [])
  pub trio_words : read_puts trio ≡ 2 ∷ 7 ∷ 2 ∷ 7 ∷ 2 ∷ 7 ∷ []
  pub trio_short : read_reply trio 5 ≡ reply 10 (Count is 6 ∷ [])
  pub trio-written : sheet_text (2 ∷ 7 ∷ 2 ∷ 7 ∷ 2 ∷ 7 ∷ []) ≡ trio
  pub trio-room : write_reply (2 ∷ 7 ∷ 2 ∷ 7 ∷ 2 ∷ 7 ∷ []) 30 ≡ reply 0 (Count is 30 ∷ [])
  pub trio-no-room : write_reply (2 ∷ 7 ∷ 2 ∷ 7 ∷ 2 ∷ 7 ∷ []) 29 ≡ reply 10 (Count is 30 ∷ [])
  -- no byte, and so no record
  pub empty : read_reply [] 6 ≡ reply 1 (Place is 0 ∷ [])
  -- an empty line is malformed, whatever record stands before it
  pub empty-line : read_reply (trio_line ++ (10 ∷ [])) 6 ≡ reply 12 (Place is 2 ∷ [])
  -- one line of Trio alone: its members 1 and 2 are no nodes
  pub strangers : read_reply trio_line 0 ≡ reply 6 (Place is 1 ∷ [])
  -- a malformed line comes before a fault of the records
  pub malformed_first : read_reply (trio_line ++ (48 ∷ [])) 0 ≡ reply 12 (Place is 2 ∷ [])
  -- a sheet of an unknown archive is read and written as it stands
  pub unknown_read : read_reply (unknown_line ++ unknown_line) 4 ≡ reply 0 (Count is 4 ∷ [])
  pub unknown_words : read_puts (unknown_line ++ unknown_line) ≡ 0 ∷ 0 ∷ 0 ∷ 0 ∷ []
  pub unknown-written : sheet_text (0 ∷ 0 ∷ 0 ∷ 0 ∷ []) ≡ unknown_line ++ unknown_line
  pub unknown-room : write_reply (0 ∷ 0 ∷ 0 ∷ 0 ∷ []) 12 ≡ reply 0 (Count is 12 ∷ [])
  -- a written 0 has the same words, and gives 5 at its line: behind a `?`, before one, and at the first of two
  pub nought : read_reply nought_line 2 ≡ reply 5 (Place is 1 ∷ [])
  pub nought_later : read_reply (unknown_line ++ nought_line) 4 ≡ reply 5 (Place is 2 ∷ [])
  pub nought_earlier : read_reply (nought_line ++ unknown_line) 4 ≡ reply 5 (Place is 1 ∷ [])
  pub nought_first : read_reply (unknown_line ++ (nought_line ++ nought_line)) 6 ≡ reply 5 (Place is 2 ∷ [])
  -- any byte where no line is left to take comes first
  pub nought_surplus : take_lines 1 256 (nought_line ++ nought_line) ≡ stops 1 257
  -- 0 1 0, then 1 0 -: a written 0 at level 1
  pub nought_inner : read_reply (48 ∷ 9 ∷ 49 ∷ 9 ∷ 48 ∷ 10 ∷ 49 ∷ 9 ∷ 48 ∷ 9 ∷ 45 ∷ 10 ∷ []) 4 ≡ reply 5 (Place is 2 ∷ [])
  -- a `?` with a member is no unknown archive
  pub unknown_member : read_reply (unknown_line ++ member_line) 4 ≡ reply 5 (Place is 2 ∷ [])
  -- a later malformed line comes before a written 0, and so does a `?` above level 0, which is one
  pub nought_malformed : read_reply (nought_line ++ (48 ∷ [])) 2 ≡ reply 12 (Place is 2 ∷ [])
  pub nought_inner_unknown : read_reply (nought_line ++ inner_line) 4 ≡ reply 12 (Place is 2 ∷ [])
  -- of the numbers 2 to 5 the first record's comes first: 3 at line 2, before and behind a written 0
  pub nought_behind : read_reply (unknown_line ++ (deep_line ++ nought_line)) 6 ≡ reply 3 (Place is 2 ∷ [])
  pub nought_before : read_reply (nought_line ++ deep_line) 4 ≡ reply 5 (Place is 1 ∷ [])
  -- a written 0 comes before 6, which is another record's
  pub nought_stranger : read_reply (trio_line ++ nought_line) 4 ≡ reply 5 (Place is 2 ∷ [])

pub examples : Examples
unfolding computing read_reply read_puts write_reply sheet_lines take_lines sheet_text read_line read_field read_threshold read_last read_number number_of digit_at digit_of read_members read_ids read_id join line_text field_text threshold_text last_text member_text with_commas nodes_from numeral digits
examples =
    record {
      trio_read = refl;
      trio_words = refl;
      trio_short = refl;
      trio-written = refl;
      trio-room = refl;
      trio-no-room = refl;
      empty = refl;
      empty-line = refl;
      strangers = refl;
      malformed_first = refl;
      unknown_read = refl;
      unknown_words = refl;
      unknown-written = refl;
      unknown-room = refl;
      nought = refl;
      nought_later = refl;
      nought_earlier = refl;
      nought_first = refl;
      nought_surplus = refl;
      nought_inner = refl;
      unknown_member = refl;
      nought_malformed = refl;
      nought_inner_unknown = refl;
      nought_behind = refl;
      nought_before = refl;
      nought_stranger = refl;
    }
