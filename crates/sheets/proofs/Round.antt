-- A sheet whose lines are all good, and none of whose thresholds is a written 0, is the text of its records, line by line; and the lines of the text of a
-- sound table are its records, and none has a written 0.
use Prim.Native.Nat.{ℕ, zero, suc, ◌+◌, ◌*◌, ◌/◌, ◌%◌, ◌≤◌, ◌<◌}
use native.Mathlib.Omega.{arith}
use mathlib.Core.Path.{◌≡◌, refl, ap, ap₂, sym, ◌∙◌}
use mathlib.Core.Bool.{true, false, cond}
use mathlib.Core.Logic.{⊎_elim}
use mathlib.Core.List.{List, [], ◌∷◌, ◌++◌}
use lib.Pow.{pow_mono}
use lib.ListN.{length, drop, drop_of_length-le}
use lib.Seq.{drop-cons, drop-append_seam}
use Rattle.decimal.proofs.Order.{lt-or-le}
use Rattle.meanings.specs.Table.{control, level, threshold, members, records, nodes}
use Rattle.meanings.specs.Faults.{check, sound}
use Rattle.tables.proofs.Sound.{sound_table, record_in}
use Rattle.tables.proofs.Unknown.{unknown_record}
use Rattle.std.proofs.Common.{Bool, Option, Some, None}
use Rattle.lines.specs.Lines.{read_line, given, is_nought}
use Rattle.lines.specs.declared.Line.{Line}
use Rattle.lines.proofs.Round.{record_line, line_as, shown, given_shown, written_read as line_written, read_written as Line_read, read_split}
use Rattle.sheets.specs.Sheets.{Taken, words, stops, earlier, before, take_lines, sheet_lines, sheet_text}
use Rattle.sheets.proofs.Taking.{no_more, one_too_many, bad_line, two, nought_at, good_line}
use Rattle.sheets.proofs.Writing.{text_from, record_text, next_line, no_line, past_end}

pub never : (k p : ℕ) (w : List ℕ) (x : ℕ) {P : Type 0} → stops k p ≡ words w x → P
never k p w x e = let z : ◌≡◌ {A = ℕ} 0 1 = cc in absurd (omega arith)

nothing : (s : List ℕ) → length s ≤ 0 → s ≡ []
nothing [] h = refl
nothing (b ∷ s) h = absurd (omega arith)

-- the next line is a record's, and its words and a written 0 stand before those of the lines that follow
pub record NextRead (left line : ℕ) (s w : List ℕ) (x : ℕ) : Type 0 where
  pub read : Line
  pub k : ℕ
  pub rest : List ℕ
  pub later : ℕ
  pub good : read_line s ≡ Some (read, k)
  pub lines : take_lines left (suc line) (drop k s) ≡ words rest later
  pub put : w ≡ two read ++ rest
  pub first : x ≡ earlier (nought_at read line) later

module _ (left line : ℕ) (s w : List ℕ) (x : ℕ) where
  by_rest : (l : Line) (k : ℕ) → read_line s ≡ Some (l, k) → (y : Taken) → take_lines left (suc line) (drop k s) ≡ y
      → before (two l) (nought_at l line) y ≡ words w x → NextRead left line s w x
  by_rest l k g (stops n p) e r = never n p w x r
  by_rest l k g (words v y) e r =
      let a : words (two l ++ v) (earlier (nought_at l line) y) ≡ words w x = r in
      record { read = l; k = k; rest = v; later = y; good = g; lines = e; put = cc; first = cc }

  by_line : take_lines (suc left) line s ≡ words w x → 0 < length s → (y : Option (Line × ℕ)) → read_line s ≡ y → NextRead left line s w x
  by_line e h None g = never 12 line w x (sym (bad_line left line s h g) ∙ e)
  by_line e h (Some (l, k)) g = by_rest l k g (take_lines left (suc line) (drop k s)) refl (sym (good_line left line s l k g) ∙ e)

  pub next_read : take_lines (suc left) line s ≡ words w x → 0 < length s → NextRead left line s w x
  next_read e h = by_line e h (read_line s) refl

-- no line is left to read
pub record Ended (s w : List ℕ) (x : ℕ) : Type 0 where
  pub no_byte : s ≡ []
  pub no_word : w ≡ []
  pub no_nought : x ≡ 0

pub ended : (left line : ℕ) (s w : List ℕ) (x : ℕ) → take_lines left line s ≡ words w x → length s ≤ 0 → Ended s w x
ended left line s w x e h =
    let a : words w x ≡ words [] 0 = sym e ∙ no_more left line s (omega arith) in
    record { no_byte = nothing s h; no_word = cc; no_nought = cc }

-- ---- what is read is what would be written, where no threshold is a written 0
module _ (l t : ℕ) (h : t ≤ 255) where
  pub level_back : (t + 256 * l) / 256 ≡ l
  level_back = omega arith

  pub threshold_back : (t + 256 * l) % 256 ≡ t
  threshold_back = omega arith

-- lines count from 1, so where there is no written 0 the next line has none
both_none : (z : Bool) (line y : ℕ) → 0 ≡ earlier (cond z (suc line) 0) y → (z ≡ false) × (y ≡ 0)
both_none true line y e = absurd (omega arith)
both_none false line y e = (refl, sym e)

as_written : (s : List ℕ) (x : Line) (k : ℕ) → is_nought x.threshold ≡ false → read_line s ≡ Some (x, k) → s ≡ record_line x ++ drop k s
as_written s x k h e = read_split s x k e ∙ ap (λ (u : List ℕ). u ++ drop k s) (line_as x h)

one_line : (left line : ℕ) (s w : List ℕ) (n : NextRead left (suc line) s w 0) → sheet_text n.rest ≡ drop n.k s → sheet_text w ≡ s
unfolding sheet_text
one_line left line s w n e =
    let x = n.read in
    let h = (line_written s x n.k n.good).threshold in
    let z = (both_none (is_nought x.threshold) line n.later n.first).0 in
    rw (n.put, level_back x.level (given x.threshold) h, threshold_back x.level (given x.threshold) h, e) (sym (as_written s x n.k z n.good))

none : (s w : List ℕ) → Ended s w 0 → sheet_text w ≡ s
unfolding sheet_text
none s w e = rw (e.no_byte, e.no_word)

pub lines_text : (left line : ℕ) (s w : List ℕ) → take_lines left (suc line) s ≡ words w 0 → sheet_text w ≡ s
lines_text zero line s w e =
    ⊎_elim (λ h. never 1 257 w 0 (sym (one_too_many (suc line) s h) ∙ e)) (λ h. none s w (ended 0 (suc line) s w 0 e h)) (lt-or-le 0 (length s))
lines_text (suc left) line s w e =
    ⊎_elim
    (λ h.
    let n = next_read left (suc line) s w 0 e h in
    let y = (both_none (is_nought n.read.threshold) line n.later n.first).1 in
    one_line left line s w n (lines_text left (suc line) (drop n.k s) n.rest (n.lines ∙ ap (words n.rest) y)))
    (λ h. none s w (ended (suc left) (suc line) s w 0 e h))
    (lt-or-le 0 (length s))

-- ---- what is written is read back, whatever number its first line has
module _ (t : List ℕ) (e : check t ≡ sound) where
  two_words : (r : ℕ) → r < records t → drop (2 * r) t ≡ (threshold t r + 256 * level t r) ∷ members t r ∷ drop (2 * (r + 1)) t
  unfolding level threshold members control
  two_words r h =
      let i = record_in t r h in
      let a : 2 * r < length t = omega arith in
      let b : suc (2 * r) < length t = omega arith in
      let n : 2 * (r + 1) ≡ suc (suc (2 * r)) = omega arith in
      let c : control t r % 256 + 256 * (control t r / 256) ≡ control t r = omega arith in
      rw (n, c, drop-cons t (2 * r) 0 a, drop-cons t (suc (2 * r)) 0 b)

  -- its line, as it is read
  abbrev line_of : ℕ → Line
  line_of r = record { level = level t r; threshold = shown (threshold t r); members = members t r }

  good_record : (r : ℕ) (rest : List ℕ) → r < records t
      → read_line (record_text t r ++ rest) ≡ Some (line_of r, length (record_text t r))
  unfolding threshold
  good_record r rest h =
      let s = sound_table t e in
      let p = pow_mono {i = nodes t} {j = 64} s.nodes-le in
      let m = (s.at r h).members-lt in
      let u : threshold t r ≡ 0 → level t r ≡ 0 = λ z. (unknown_record t r ((s.at r h).zero-unknown z)).head in
      Line_read (level t r) (threshold t r) (members t r) rest (s.at r h).level-le (omega arith) (omega arith) u

  one_record : (left line r : ℕ) → r < records t → take_lines left (suc line) (text_from t (r + 1)) ≡ words (drop (2 * (r + 1)) t) 0
      → take_lines (suc left) line (text_from t r) ≡ words (drop (2 * r) t) 0
  one_record left line r h i =
      let l = record_text t r in
      let g = given_shown (threshold t r) in
      let w = (threshold t r + 256 * level t r) ∷ members t r ∷ [] in
      let a : two (line_of r) ≡ w = ap (λ (n : ℕ). (n + 256 * level t r) ∷ members t r ∷ []) g.0 in
      let b : nought_at (line_of r) line ≡ 0 = ap (λ (z : Bool). cond z line 0) g.1 in
      ap (take_lines (suc left) line) (next_line t r (record_in t r h))
      ∙ good_line left line (l ++ text_from t (r + 1)) (line_of r) (length l) (good_record r (text_from t (r + 1)) h)
      ∙ ap₂ (λ (u : List ℕ) (x : ℕ). before u x (take_lines left (suc line) (drop (length l) (l ++ text_from t (r + 1))))) a b
      ∙ ap (λ (x : List ℕ). before w 0 (take_lines left (suc line) x)) (drop-append_seam l (text_from t (r + 1)))
      ∙ ap (before w 0) i
      ∙ ap (λ (w : List ℕ). words w 0) (sym (two_words r h))

  no_record : (left line r : ℕ) → records t ≤ r → take_lines left line (text_from t r) ≡ words (drop (2 * r) t) 0
  no_record left line r h =
      let p = past_end t e r h in
      no_more left line (text_from t r) (ap length (no_line t r p)) ∙ ap (λ (w : List ℕ). words w 0) (sym (drop_of_length-le t p))

  from_record : (n left line r : ℕ) → r + n ≡ records t → n ≤ left → take_lines left line (text_from t r) ≡ words (drop (2 * r) t) 0
  from_record zero left line r i h = no_record left line r (omega arith)
  from_record (suc n) zero line r i h = absurd (omega arith)
  from_record (suc n) (suc left) line r i h =
      one_record left line r (omega arith) (from_record n left (suc line) (r + 1) (omega arith) (omega arith))

  pub text_lines : sheet_lines (sheet_text t) ≡ words t 0
  unfolding sheet_lines
  text_lines = from_record (records t) 256 1 0 (omega arith) (sound_table t e).records-le
