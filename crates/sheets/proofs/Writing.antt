-- The text of a table from a record on is that record's line and the text from the next record on; a line is written into what is left
-- of the buffer, so what is written in the end is the whole text.
use Prim.Native.Nat.{ℕ, suc, ◌+◌, ◌-◌, ◌*◌, ◌≤◌, ◌<◌}
use native.Mathlib.Omega.{arith}
use mathlib.Core.Path.{◌≡◌, ap, sym, ◌∙◌}
use mathlib.Core.List.{List, [], ◌++◌}
use borrow.Rule.Slice.PartMut.{put_mid}
use lib.ListN.{length, take, drop, length-append, length-drop, drop_of_length-le, take-append-drop}
use lib.Seq.{drop-cons}
use Rattle.decimal.specs.Bytes.{at_front, Written}
use Rattle.decimal.proofs.Order.{rest}
use Rattle.decimal.proofs.Place.{at_place, lent, place_place, length_place}
use Rattle.meanings.specs.Table.{control, level, threshold, members, records}
use Rattle.meanings.specs.Faults.{check, sound}
use Rattle.tables.proofs.Sound.{sound_table, record_in}
use Rattle.lines.specs.Lines.{line_text}
use Rattle.lines.proofs.Texts.{length_most}
use Rattle.sheets.specs.Sheets.{sheet_text}

-- the line of record r
abbrev pub record_text : List ℕ → ℕ → List ℕ
record_text t r = line_text (level t r) (threshold t r) (members t r)

-- what is read of the record is what the line is made of
pub its_line : (t : List ℕ) (r l h m : ℕ) → l ≡ level t r → h ≡ threshold t r → m ≡ members t r → line_text l h m ≡ record_text t r
its_line t r l h m a b c = rw (a, b, c)

-- the text from record r on
abbrev pub text_from : List ℕ → ℕ → List ℕ
text_from t r = sheet_text (drop (2 * r) t)

pub next_line : (t : List ℕ) (r : ℕ) → 2 * r + 1 < length t → text_from t r ≡ record_text t r ++ text_from t (r + 1)
unfolding sheet_text level threshold members control
next_line t r h =
    let a : 2 * r < length t = omega arith in
    let b : suc (2 * r) < length t = omega arith in
    let n : 2 * (r + 1) ≡ suc (suc (2 * r)) = omega arith in
    rw (n, drop-cons t (2 * r) 0 a, drop-cons t (suc (2 * r)) 0 b)

pub length_next : (t : List ℕ) (r : ℕ) → 2 * r + 1 < length t → length (text_from t r) ≡ length (record_text t r) + length (text_from t (r + 1))
length_next t r h = ap length (next_line t r h) ∙ length-append (record_text t r) (text_from t (r + 1))

pub no_line : (t : List ℕ) (r : ℕ) → length t ≤ 2 * r → text_from t r ≡ []
unfolding sheet_text
no_line t r h = rw (drop_of_length-le t h)

-- ---- a sound table
module _ (t : List ℕ) (e : check t ≡ sound) where
  pub few_records : records t ≤ 256
  few_records = (sound_table t e).records-le

  pub past_end : (r : ℕ) → records t ≤ r → length t ≤ 2 * r
  unfolding records
  past_end r h = let s = sound_table t e in omega arith

  pub short_line : (r : ℕ) → r < records t → length (record_text t r) ≤ 188
  unfolding threshold
  short_line r h = length_most (level t r) (threshold t r) (members t r) ((sound_table t e).at r h).level-le (omega arith)

-- ---- the lines before record r take `need` bytes, so with the text from r on they are the whole text
pub record Counted (t : List ℕ) (r need : ℕ) : Type 0 where
  pub few : need ≤ 188 * r
  pub whole : need + length (text_from t r) ≡ length (sheet_text t)

module _ (t : List ℕ) (e : check t ≡ sound) (r need : ℕ) (b : Counted t r need) where
  pub one_counted : r < records t → (n : ℕ) → n ≡ length (record_text t r) → Counted t (r + 1) (need + n)
  one_counted h n f =
      record {
        few = omega (arith, b.few, short_line t e r h);
        whole = omega (arith, b.whole, length_next t r (record_in t r h));
      }

  pub all_counted : records t ≤ r → need ≡ length (sheet_text t)
  all_counted h = omega (arith, b.whole, ap length (no_line t r (past_end t e r h)))

-- ---- w and then v are to stand at `at`: w is written into what is left of o, and v is to stand behind it
module _ (w v o : List ℕ) (at : ℕ) (fits : at + length w + length v ≤ length o) (n : ℕ) (o' : List ℕ)
    (h : Written w (take (length o - at) (drop at o)) o' n) where
  put : put_mid at (length o - at) o o' ≡ at_place at w o
  put = let f : at + length w ≤ length o = omega arith in rw h.bytes (lent at w o f)

  pub same_room : length (put_mid at (length o - at) o o') ≡ length o
  same_room = let f : at + length w ≤ length o = omega arith in ap length put ∙ length_place at w o f

  pub goes_on : at_place (at + n) v (put_mid at (length o - at) o o') ≡ at_place at (w ++ v) o
  goes_on = let f : at + length w ≤ length o = omega arith in rw (put, h.count) (place_place at w o f v fits)

nothing_left : (at : ℕ) (o : List ℕ) → at_place at [] o ≡ o
nothing_left at o = take-append-drop at o

-- ---- the text from record r on is still to be written, at the place `at`
pub record ToWrite (t before : List ℕ) (r at : ℕ) (o : List ℕ) : Type 0 where
  pub same : length o ≡ length before
  pub place : at + length (text_from t r) ≡ length (sheet_text t)
  pub promised : at_place at (text_from t r) o ≡ at_front (sheet_text t) before

module _ (t before : List ℕ) (r at : ℕ) (o : List ℕ) (b : ToWrite t before r at o) where
  module _ (room : length (sheet_text t) ≤ length before) (h : r < records t) where
    fits_line : at + length (record_text t r) + length (text_from t (r + 1)) ≤ length o
    fits_line = omega (arith, b.same, b.place, length_next t r (record_in t r h))

    pub line_start : at ≤ length o
    line_start = omega (arith, fits_line)

    pub line_room : length (record_text t r) ≤ length (take (length o - at) (drop at o))
    line_room = rw (rest o at) (omega (arith, fits_line, length-drop at o))

    pub one_written : (n : ℕ) (o' : List ℕ) → Written (record_text t r) (take (length o - at) (drop at o)) o' n
        → ToWrite t before (r + 1) (at + n) (put_mid at (length o - at) o o')
    one_written n o' w =
        record {
          same = same_room (record_text t r) (text_from t (r + 1)) o at fits_line n o' w ∙ b.same;
          place = omega (arith, w.count, b.place, length_next t r (record_in t r h));
          promised =
              goes_on (record_text t r) (text_from t (r + 1)) o at fits_line n o' w
              ∙ ap (λ (x : List ℕ). at_place at x o) (sym (next_line t r (record_in t r h)))
              ∙ b.promised;
        }

  pub all_written : check t ≡ sound → records t ≤ r → o ≡ at_front (sheet_text t) before
  all_written e h =
      sym (nothing_left at o) ∙ ap (λ (x : List ℕ). at_place at x o) (sym (no_line t r (past_end t e r h))) ∙ b.promised
