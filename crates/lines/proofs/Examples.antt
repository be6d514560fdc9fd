-- Lines of the worked points and on both sides of each rule, read by the definition. Each is a computation.
use Prim.Native.Nat.{◌-◌, ◌^◌}
use mathlib.Core.Path.{◌≡◌, refl}
use mathlib.Core.List.{[], ◌∷◌}
use lib.ListN.{length}
use Rattle.std.proofs.Common.{Some, None}
use Rattle.decimal.specs.Decimal.{digits, numeral, digit_of, digit_at, number_of, read_number}
use Rattle.members.specs.Members.{nodes_from, with_commas, member_text, read_id, join, read_ids, read_members}
use Rattle.lines.specs.Lines.{field_text, threshold_text, last_text, line_text, read_field, read_threshold, read_last, read_line}

pub record Read : Type 0 where
  -- 0 2 0,1,2: a line of Trio
  pub trio : read_line (48 ∷ 9 ∷ 50 ∷ 9 ∷ 48 ∷ 44 ∷ 49 ∷ 44 ∷ 50 ∷ 10 ∷ []) ≡ Some (record { level = 0; threshold = Some 2; members = 7 }, 10)
  -- 3 255 63 and more behind it: the greatest numbers
  pub greatest : read_line (51 ∷ 9 ∷ 50 ∷ 53 ∷ 53 ∷ 9 ∷ 54 ∷ 51 ∷ 10 ∷ 48 ∷ []) ≡ Some (record { level = 3; threshold = Some 255; members = 2 ^ 63 }, 9)
  -- 0 0 -: no members, and a written 0
  pub hyphen : read_line (48 ∷ 9 ∷ 48 ∷ 9 ∷ 45 ∷ 10 ∷ []) ≡ Some (record { level = 0; threshold = Some 0; members = 0 }, 6)
  -- 1 0 -: a written 0 above level 0 is no malformed line
  pub inner_nought : read_line (49 ∷ 9 ∷ 48 ∷ 9 ∷ 45 ∷ 10 ∷ []) ≡ Some (record { level = 1; threshold = Some 0; members = 0 }, 6)
  -- 0 ? -: an archive whose sheet is unknown
  pub unknown : read_line (48 ∷ 9 ∷ 63 ∷ 9 ∷ 45 ∷ 10 ∷ []) ≡ Some (record { level = 0; threshold = None; members = 0 }, 6)
  -- 0 ? 0: members, which the check of the records minds
  pub unknown-members : read_line (48 ∷ 9 ∷ 63 ∷ 9 ∷ 48 ∷ 10 ∷ []) ≡ Some (record { level = 0; threshold = None; members = 1 }, 6)
  -- 1 ? -: only an archive is unknown
  pub inner_unknown : read_line (49 ∷ 9 ∷ 63 ∷ 9 ∷ 45 ∷ 10 ∷ []) ≡ None
  -- 0 ?1 -, 0 ?? -, 0 1? -: a `?` that is not alone
  pub unknown_digit : read_line (48 ∷ 9 ∷ 63 ∷ 49 ∷ 9 ∷ 45 ∷ 10 ∷ []) ≡ None
  pub unknown-twice : read_line (48 ∷ 9 ∷ 63 ∷ 63 ∷ 9 ∷ 45 ∷ 10 ∷ []) ≡ None
  pub digit_unknown : read_line (48 ∷ 9 ∷ 49 ∷ 63 ∷ 9 ∷ 45 ∷ 10 ∷ []) ≡ None
  -- 0 ? and no tab
  pub unknown_alone : read_line (48 ∷ 9 ∷ 63 ∷ 10 ∷ []) ≡ None
  -- 0 ? and a list that is none
  pub unknown-no-list : read_line (48 ∷ 9 ∷ 63 ∷ 9 ∷ 10 ∷ []) ≡ None
  pub unknown_falling : read_line (48 ∷ 9 ∷ 63 ∷ 9 ∷ 49 ∷ 44 ∷ 48 ∷ 10 ∷ []) ≡ None
  -- ? 1 -, 0 1 ?: a `?` elsewhere
  pub unknown-level : read_line (63 ∷ 9 ∷ 49 ∷ 9 ∷ 45 ∷ 10 ∷ []) ≡ None
  pub unknown-list : read_line (48 ∷ 9 ∷ 49 ∷ 9 ∷ 63 ∷ 10 ∷ []) ≡ None
  -- 4 1 0: no level
  pub level_4 : read_line (52 ∷ 9 ∷ 49 ∷ 9 ∷ 48 ∷ 10 ∷ []) ≡ None
  -- 0 256 0: no threshold
  pub threshold_256 : read_line (48 ∷ 9 ∷ 50 ∷ 53 ∷ 54 ∷ 9 ∷ 48 ∷ 10 ∷ []) ≡ None
  -- 0 01 0: a leading zero
  pub leading_zero : read_line (48 ∷ 9 ∷ 48 ∷ 49 ∷ 9 ∷ 48 ∷ 10 ∷ []) ≡ None
  -- 0 1 64: no node
  pub node_64 : read_line (48 ∷ 9 ∷ 49 ∷ 9 ∷ 54 ∷ 52 ∷ 10 ∷ []) ≡ None
  -- 0 1 1,0: not rising
  pub falling : read_line (48 ∷ 9 ∷ 49 ∷ 9 ∷ 49 ∷ 44 ∷ 48 ∷ 10 ∷ []) ≡ None
  -- 0 1 1,1: a repeat
  pub repeated : read_line (48 ∷ 9 ∷ 49 ∷ 9 ∷ 49 ∷ 44 ∷ 49 ∷ 10 ∷ []) ≡ None
  -- 0 1 1, and no more ids
  pub dangling_comma : read_line (48 ∷ 9 ∷ 49 ∷ 9 ∷ 49 ∷ 44 ∷ 10 ∷ []) ≡ None
  -- 0 1 and nothing, which is not the same as a hyphen
  pub no-list : read_line (48 ∷ 9 ∷ 49 ∷ 9 ∷ 10 ∷ []) ≡ None
  -- 0 1 -,0: a hyphen that is not alone
  pub hyphen_and_more : read_line (48 ∷ 9 ∷ 49 ∷ 9 ∷ 45 ∷ 44 ∷ 48 ∷ 10 ∷ []) ≡ None
  -- 0 1 0 with a space for a tab
  pub space : read_line (48 ∷ 32 ∷ 49 ∷ 9 ∷ 48 ∷ 10 ∷ []) ≡ None
  -- 0 1 0 with CR before LF
  pub carriage_return : read_line (48 ∷ 9 ∷ 49 ∷ 9 ∷ 48 ∷ 13 ∷ 10 ∷ []) ≡ None
  -- 0 1 0 and no line's end
  pub no_end : read_line (48 ∷ 9 ∷ 49 ∷ 9 ∷ 48 ∷ []) ≡ None
  pub nothing : read_line [] ≡ None

pub read : Read
unfolding read_line read_field read_threshold read_last read_number number_of digit_at digit_of read_members read_ids read_id join
read =
    record {
      trio = refl;
      greatest = refl;
      hyphen = refl;
      inner_nought = refl;
      unknown = refl;
      unknown-members = refl;
      inner_unknown = refl;
      unknown_digit = refl;
      unknown-twice = refl;
      digit_unknown = refl;
      unknown_alone = refl;
      unknown-no-list = refl;
      unknown_falling = refl;
      unknown-level = refl;
      unknown-list = refl;
      level_4 = refl;
      threshold_256 = refl;
      leading_zero = refl;
      node_64 = refl;
      falling = refl;
      repeated = refl;
      dangling_comma = refl;
      no-list = refl;
      hyphen_and_more = refl;
      space = refl;
      carriage_return = refl;
      no_end = refl;
      nothing = refl;
    }

-- the longest line, as SPECIFICATION 2 has it
pub longest : length (line_text 3 255 (2 ^ 64 - 1)) ≡ 188
unfolding line_text field_text threshold_text last_text member_text with_commas nodes_from numeral digits
longest = refl

-- 0 ? -: an unknown archive is written as it is read
pub unknown-written : line_text 0 0 0 ≡ 48 ∷ 9 ∷ 63 ∷ 9 ∷ 45 ∷ 10 ∷ []
unfolding line_text field_text threshold_text last_text member_text numeral digits
unknown-written = refl
