-- The lines of a trust sheet (SPECIFICATION 2): level, threshold and members, parted by one tab and ended by LF.
use Rattle.std.specs.Prelude.{ℕ, ◌+◌, Bool, false, cond, ◌&&◌, List, [], ◌∷◌, ◌++◌, ltb, eqb, get_or, drop, Option, None, Some}
use Rattle.decimal.specs.Decimal.{numeral, read_number, on_read}
use Rattle.members.specs.Members.{member_text, read_members}
use Rattle.lines.specs.declared.Line.{Line}

-- a number and the tab behind it
unfoldable pub field_text : ℕ → List ℕ
field_text n = numeral n ++ 9 ∷ []

-- a member list and the line's end
unfoldable pub last_text : ℕ → List ℕ
last_text m = member_text m ++ 10 ∷ []

-- a threshold and the tab behind it; that of an unknown archive, 0, is a `?`
unfoldable pub threshold_text : ℕ → List ℕ
threshold_text threshold = cond (eqb threshold 0) (63 ∷ 9 ∷ []) (field_text threshold)

-- the text of a record
unfoldable pub line_text : ℕ → ℕ → ℕ → List ℕ
line_text level threshold members = field_text level ++ (threshold_text threshold ++ last_text members)

-- the number and the tab at the start of s, and how many bytes they take
unfoldable pub read_field : List ℕ → Option (ℕ × ℕ)
read_field s = on_read (read_number s) None (λ v k. cond (eqb (get_or s k 0) 9) (Some (v, k + 1)) None)

-- the member list and the line's end at the start of s, and how many bytes they take
unfoldable pub read_last : List ℕ → Option (ℕ × ℕ)
read_last s = on_read (read_members s) None (λ m k. cond (eqb (get_or s k 0) 10) (Some (m, k + 1)) None)

-- The threshold and the tab at the start of s, and how many bytes they take: a number, or at level 0 a `?`, which is none.
unfoldable pub read_threshold : (level : ℕ) → List ℕ → Option (Option ℕ × ℕ)
read_threshold level s =
    cond (eqb (get_or s 0 0) 63)
    (cond (eqb level 0 && eqb (get_or s 1 0) 9) (Some (None, 2)) None)
    (on_read (read_field s) None (λ v k. Some (Some v, k)))

-- the threshold of a line's record: a `?` stands for 0; and whether it is a written 0
abbrev pub given : Option ℕ → ℕ
given None = 0
given (Some v) = v

abbrev pub is_nought : Option ℕ → Bool
is_nought None = false
is_nought (Some v) = eqb v 0

-- the line at the start of s, and how many bytes it takes
unfoldable pub read_line : List ℕ → Option (Line × ℕ)
read_line s =
    on_read (read_field s) None
    (λ level a.
    cond (ltb 3 level) None
    (on_read (read_threshold level (drop a s)) None
    (λ threshold b.
    on_read (read_last (drop (a + b) s)) None
    (λ members k. Some (record { level = level; threshold = threshold; members = members }, a + b + k)))))
