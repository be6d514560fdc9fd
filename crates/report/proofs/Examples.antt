-- Trio's report, and a line of each other form, by the definitions alone. Each is a computation.
use Prim.Native.Nat.{ℕ}
use mathlib.Core.Path.{◌≡◌, refl}
use mathlib.Core.List.{List, [], ◌∷◌}
use Rattle.decimal.specs.Decimal.{digits, numeral, digit_of, digit_at, number_of, read_number}
use Rattle.members.specs.Members.{nodes_from, with_commas, member_text, read_id, join, read_ids, read_members}
use Rattle.lines.specs.Lines.{read_field, read_threshold, read_last, read_line}
use Rattle.meanings.specs.Replies.{reply, ◌is◌, Visits, Count}
use Rattle.meanings.specs.Rows.{computing}
use Rattle.sheets.specs.Sheets.{take_lines, sheet_lines, read_reply, read_puts}
use Rattle.words.specs.Words as word
use Rattle.fields.specs.Fields.{row}
use Rattle.report_lines.specs.Lines.{refused_line, nodes_line, answer_text, verdict_line, list_line, set_line, set_lines}
use Rattle.report.specs.Report.{list_part, minimal_part, blocking_part, head_part, report_on, report_of}

-- three lines, each (0; 2; 0,1,2)
abbrev pub trio_sheet : List ℕ
trio_sheet =
    48 ∷ 9 ∷ 50 ∷ 9 ∷ 48 ∷ 44 ∷ 49 ∷ 44 ∷ 50 ∷ 10
    ∷ 48 ∷ 9 ∷ 50 ∷ 9 ∷ 48 ∷ 44 ∷ 49 ∷ 44 ∷ 50 ∷ 10
    ∷ 48 ∷ 9 ∷ 50 ∷ 9 ∷ 48 ∷ 44 ∷ 49 ∷ 44 ∷ 50 ∷ 10 ∷ []

-- as SPECIFICATION 10 has it
abbrev pub trio_report : List ℕ
trio_report =
    110 ∷ 111 ∷ 100 ∷ 101 ∷ 115 ∷ 9 ∷ 51 ∷ 9 ∷ 115 ∷ 101 ∷ 116 ∷ 115 ∷ 9 ∷ 51 ∷ 10
    ∷ 118 ∷ 101 ∷ 114 ∷ 100 ∷ 105 ∷ 99 ∷ 116 ∷ 9 ∷ 48 ∷ 9 ∷ 121 ∷ 101 ∷ 115 ∷ 9 ∷ 49 ∷ 49 ∷ 9 ∷ 45 ∷ 9 ∷ 45 ∷ 10
    ∷ 109 ∷ 105 ∷ 110 ∷ 105 ∷ 109 ∷ 97 ∷ 108 ∷ 9 ∷ 48 ∷ 9 ∷ 51 ∷ 9 ∷ 49 ∷ 49 ∷ 10
    ∷ 113 ∷ 9 ∷ 49 ∷ 44 ∷ 50 ∷ 10
    ∷ 113 ∷ 9 ∷ 48 ∷ 44 ∷ 50 ∷ 10
    ∷ 113 ∷ 9 ∷ 48 ∷ 44 ∷ 49 ∷ 10
    ∷ 98 ∷ 108 ∷ 111 ∷ 99 ∷ 107 ∷ 105 ∷ 110 ∷ 103 ∷ 9 ∷ 48 ∷ 9 ∷ 51 ∷ 9 ∷ 49 ∷ 49 ∷ 10
    ∷ 98 ∷ 9 ∷ 49 ∷ 44 ∷ 50 ∷ 10
    ∷ 98 ∷ 9 ∷ 48 ∷ 44 ∷ 50 ∷ 10
    ∷ 98 ∷ 9 ∷ 48 ∷ 44 ∷ 49 ∷ 10 ∷ []

-- two lines (0; 2; 0,1), then two lines (0; 2; 2,3)
abbrev pub pairs_sheet : List ℕ
pairs_sheet =
    48 ∷ 9 ∷ 50 ∷ 9 ∷ 48 ∷ 44 ∷ 49 ∷ 10
    ∷ 48 ∷ 9 ∷ 50 ∷ 9 ∷ 48 ∷ 44 ∷ 49 ∷ 10
    ∷ 48 ∷ 9 ∷ 50 ∷ 9 ∷ 50 ∷ 44 ∷ 51 ∷ 10
    ∷ 48 ∷ 9 ∷ 50 ∷ 9 ∷ 50 ∷ 44 ∷ 51 ∷ 10 ∷ []

-- as the second house prints it: no, with the pair
abbrev pub pairs_report : List ℕ
pairs_report =
    110 ∷ 111 ∷ 100 ∷ 101 ∷ 115 ∷ 9 ∷ 52 ∷ 9 ∷ 115 ∷ 101 ∷ 116 ∷ 115 ∷ 9 ∷ 52 ∷ 10
    ∷ 118 ∷ 101 ∷ 114 ∷ 100 ∷ 105 ∷ 99 ∷ 116 ∷ 9 ∷ 48 ∷ 9 ∷ 110 ∷ 111 ∷ 9 ∷ 54 ∷ 9 ∷ 50 ∷ 44 ∷ 51 ∷ 9 ∷ 48 ∷ 44 ∷ 49 ∷ 10
    ∷ 109 ∷ 105 ∷ 110 ∷ 105 ∷ 109 ∷ 97 ∷ 108 ∷ 9 ∷ 48 ∷ 9 ∷ 50 ∷ 9 ∷ 57 ∷ 10
    ∷ 113 ∷ 9 ∷ 50 ∷ 44 ∷ 51 ∷ 10
    ∷ 113 ∷ 9 ∷ 48 ∷ 44 ∷ 49 ∷ 10
    ∷ 98 ∷ 108 ∷ 111 ∷ 99 ∷ 107 ∷ 105 ∷ 110 ∷ 103 ∷ 9 ∷ 48 ∷ 9 ∷ 52 ∷ 9 ∷ 49 ∷ 51 ∷ 10
    ∷ 98 ∷ 9 ∷ 49 ∷ 44 ∷ 51 ∷ 10
    ∷ 98 ∷ 9 ∷ 49 ∷ 44 ∷ 50 ∷ 10
    ∷ 98 ∷ 9 ∷ 48 ∷ 44 ∷ 51 ∷ 10
    ∷ 98 ∷ 9 ∷ 48 ∷ 44 ∷ 50 ∷ 10 ∷ []

-- where there is no quorum the empty set alone blocks, and prints as -
abbrev pub unknown_report : List ℕ
unknown_report =
    110 ∷ 111 ∷ 100 ∷ 101 ∷ 115 ∷ 9 ∷ 49 ∷ 9 ∷ 115 ∷ 101 ∷ 116 ∷ 115 ∷ 9 ∷ 49 ∷ 10
    ∷ 118 ∷ 101 ∷ 114 ∷ 100 ∷ 105 ∷ 99 ∷ 116 ∷ 9 ∷ 48 ∷ 9 ∷ 121 ∷ 101 ∷ 115 ∷ 9 ∷ 49 ∷ 9 ∷ 45 ∷ 9 ∷ 45 ∷ 10
    ∷ 109 ∷ 105 ∷ 110 ∷ 105 ∷ 109 ∷ 97 ∷ 108 ∷ 9 ∷ 48 ∷ 9 ∷ 48 ∷ 9 ∷ 49 ∷ 10
    ∷ 98 ∷ 108 ∷ 111 ∷ 99 ∷ 107 ∷ 105 ∷ 110 ∷ 103 ∷ 9 ∷ 48 ∷ 9 ∷ 49 ∷ 9 ∷ 49 ∷ 10
    ∷ 98 ∷ 9 ∷ 45 ∷ 10 ∷ []

pub record Reports : Type 0 where
  pub trio : report_of trio_sheet ≡ trio_report
  pub pairs : report_of pairs_sheet ≡ pairs_report
  -- refused 1 0: an empty sheet
  pub empty : report_of [] ≡ 114 ∷ 101 ∷ 102 ∷ 117 ∷ 115 ∷ 101 ∷ 100 ∷ 9 ∷ 49 ∷ 9 ∷ 48 ∷ 10 ∷ []
  -- 0 ? -, one archive, whose sheet is unknown: nodes 1 sets 1, verdict 0 yes 1 - -, minimal 0 0 1, blocking 0 1 1, b -
  pub unknown : report_of (48 ∷ 9 ∷ 63 ∷ 9 ∷ 45 ∷ 10 ∷ []) ≡ unknown_report
  -- 0 0 -, the threshold a written 0: refused 5 1
  pub written : report_of (48 ∷ 9 ∷ 48 ∷ 9 ∷ 45 ∷ 10 ∷ []) ≡ 114 ∷ 101 ∷ 102 ∷ 117 ∷ 115 ∷ 101 ∷ 100 ∷ 9 ∷ 53 ∷ 9 ∷ 49 ∷ 10 ∷ []
  -- refused 12 1: no line's end
  pub malformed : report_of (48 ∷ []) ≡ 114 ∷ 101 ∷ 102 ∷ 117 ∷ 115 ∷ 101 ∷ 100 ∷ 9 ∷ 49 ∷ 50 ∷ 9 ∷ 49 ∷ 10 ∷ []
  -- verdict 9 - 1000000 - -: the allowance ends first
  pub verdict_spent : verdict_line (reply 9 (Visits is 1000000 ∷ [])) ≡ 118 ∷ 101 ∷ 114 ∷ 100 ∷ 105 ∷ 99 ∷ 116 ∷ 9 ∷ 57 ∷ 9 ∷ 45 ∷ 9 ∷ 49 ∷ 48 ∷ 48 ∷ 48 ∷ 48 ∷ 48 ∷ 48 ∷ 9 ∷ 45 ∷ 9 ∷ 45 ∷ 10 ∷ []
  -- verdict 13 - 0 - -: no node to split on
  pub verdict_unsplit : verdict_line (reply 13 []) ≡ 118 ∷ 101 ∷ 114 ∷ 100 ∷ 105 ∷ 99 ∷ 116 ∷ 9 ∷ 49 ∷ 51 ∷ 9 ∷ 45 ∷ 9 ∷ 48 ∷ 9 ∷ 45 ∷ 9 ∷ 45 ∷ 10 ∷ []
  -- minimal 9 0 1000000: with 9 the count is 0
  pub list_spent : list_line word.minimal (reply 9 (Visits is 1000000 ∷ [])) ≡ 109 ∷ 105 ∷ 110 ∷ 105 ∷ 109 ∷ 97 ∷ 108 ∷ 9 ∷ 57 ∷ 9 ∷ 48 ∷ 9 ∷ 49 ∷ 48 ∷ 48 ∷ 48 ∷ 48 ∷ 48 ∷ 48 ∷ 10 ∷ []
  -- minimal 10 5103 0: with 10 the sets needed, and the visits are 0
  pub list_short : list_line word.minimal (reply 10 (Count is 5103 ∷ [])) ≡ 109 ∷ 105 ∷ 110 ∷ 105 ∷ 109 ∷ 97 ∷ 108 ∷ 9 ∷ 49 ∷ 48 ∷ 9 ∷ 53 ∷ 49 ∷ 48 ∷ 51 ∷ 9 ∷ 48 ∷ 10 ∷ []
  -- b -: the empty set
  pub blocking-none : set_line word.b 0 ≡ 98 ∷ 9 ∷ 45 ∷ 10 ∷ []

pub reports : Reports
unfolding computing report_of report_on head_part minimal_part blocking_part read_reply read_puts sheet_lines take_lines read_line read_threshold read_field read_last read_number number_of digit_at digit_of read_members read_ids read_id join row refused_line nodes_line answer_text verdict_line list_line set_line set_lines list_part member_text with_commas nodes_from numeral digits
reports =
    record {
      trio = refl;
      pairs = refl;
      empty = refl;
      unknown = refl;
      written = refl;
      malformed = refl;
      verdict_spent = refl;
      verdict_unsplit = refl;
      list_spent = refl;
      list_short = refl;
      blocking-none = refl;
    }
