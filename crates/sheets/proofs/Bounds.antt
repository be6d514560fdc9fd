-- A sheet that is read has at most 256 lines of at most 188 bytes each. And a line is decided by its own bytes, so cutting the text
-- behind the most that 256 lines can take changes nothing.
use Prim.Native.Nat.{ℕ, zero, suc, ◌+◌, ◌-◌, ◌*◌, ◌≤◌, ◌<◌}
use native.Mathlib.Omega.{arith}
use mathlib.Core.Path.{◌≡◌, refl, ap, sym, ◌∙◌}
use mathlib.Core.Logic.{⊎_elim}
use mathlib.Core.List.{List, ◌++◌, append_assoc}
use lib.ListN.{length, take, drop, length-take, length-drop, take-append-drop}
use lib.Seq.{take-add, drop_at, length-take-le}
use Rattle.decimal.proofs.Order.{lt-or-le}
use Rattle.std.proofs.Common.{Option, Some, None}
use Rattle.lines.specs.Lines.{read_line, given}
use Rattle.lines.specs.declared.Line.{Line}
use Rattle.lines.proofs.Round.{written_line, read_as, written_read, read_used, read_split}
use Rattle.lines.proofs.Texts.{length_most}
use Rattle.sheets.specs.Sheets.{words, before, take_lines, sheet_lines, read_reply, read_puts}
use Rattle.sheets.proofs.Taking.{no_more, one_too_many, bad_line, two, nought_at, good_line, line-some}
use Rattle.sheets.proofs.Round.{NextRead, next_read, never}
use Rattle.sheets.proofs.Numbers.{answered}

-- a line that is read has at most 188 bytes
pub used_most : (s : List ℕ) (l : Line) (k : ℕ) → read_line s ≡ Some (l, k) → k ≤ 188
used_most s l k e =
    let r = written_read s l k e in
    omega (arith, read_used s l k e, length_most l.level (given l.threshold) l.members r.level r.threshold)

-- ---- the longest sheet
one_line : (left line : ℕ) (s w : List ℕ) (x : ℕ) (n : NextRead left line s w x) → length (drop n.k s) ≤ 188 * left → length s ≤ 188 * suc left
one_line left line s w x n h = omega (arith, used_most s n.read n.k n.good, length-drop n.k s)

pub lines_most : (left line : ℕ) (s w : List ℕ) (x : ℕ) → take_lines left line s ≡ words w x → length s ≤ 188 * left
lines_most zero line s w x e = ⊎_elim (λ h. never 1 257 w x (sym (one_too_many line s h) ∙ e)) (λ h. omega arith) (lt-or-le 0 (length s))
lines_most (suc left) line s w x e =
    ⊎_elim
    (λ h.
    let n = next_read left line s w x e h in
    one_line left line s w x n (lines_most left (suc line) (drop n.k s) n.rest n.later n.lines))
    (λ h. omega arith)
    (lt-or-le 0 (length s))

good_lines_most : (s w : List ℕ) (x : ℕ) → sheet_lines s ≡ words w x → length s ≤ 48128
unfolding sheet_lines
good_lines_most s w x e = lines_most 256 1 s w x e

pub sheet_most : (s : List ℕ) (room : ℕ) → (read_reply s room).number ≡ 0 → length s ≤ 48128
sheet_most s room h = good_lines_most s (read_puts s) 0 (answered s room h).lines

-- ---- a line is decided by its own bytes
pub line_longer : (s : List ℕ) (l : Line) (k : ℕ) → read_line s ≡ Some (l, k) → (rest : List ℕ) → read_line (s ++ rest) ≡ Some (l, k)
line_longer s l k e rest =
    let r = written_read s l k e in
    ap (λ (x : List ℕ). read_line (x ++ rest)) (read_split s l k e)
    ∙ ap read_line (append_assoc (written_line l) (drop k s) rest)
    ∙ read_as l (drop k s ++ rest) r.level r.allowed r.members
    ∙ ap (λ (n : ℕ). Some (l, n)) (sym (read_used s l k e))

module _ (s : List ℕ) (n k : ℕ) (h : k ≤ n) where
  cut_split : take n s ≡ take k s ++ take (n - k) (drop k s)
  cut_split = let e : n ≡ k + (n - k) = omega arith in ap (λ (i : ℕ). take i s) e ∙ take-add k (n - k) s

  pub cut_rest : k ≤ length s → drop k (take n s) ≡ take (n - k) (drop k s)
  cut_rest f = ap (drop k) cut_split ∙ drop_at (take k s) (take (n - k) (drop k s)) k (length-take-le k s f)

  pub line_cut : (l : Line) → read_line s ≡ Some (l, k) → read_line (take n s) ≡ Some (l, k)
  line_cut l e =
      let r = written_read s l k e in
      ap read_line (cut_split ∙ ap (λ (x : List ℕ). x ++ take (n - k) (drop k s)) r.text)
      ∙ read_as l (take (n - k) (drop k s)) r.level r.allowed r.members
      ∙ ap (λ (n : ℕ). Some (l, n)) (sym (read_used s l k e))

-- a malformed line is no better for being cut
bad_cut : (s : List ℕ) (n : ℕ) → read_line s ≡ None → (x : Option (Line × ℕ)) → read_line (take n s) ≡ x → read_line (take n s) ≡ None
bad_cut s n e None g = g
bad_cut s n e (Some (l, k)) g =
    let a : read_line s ≡ Some (l, k) = ap read_line (sym (take-append-drop n s)) ∙ line_longer (take n s) l k g (drop n s) in
    absurd (cc)

-- ---- so is a sheet
still-some : (s : List ℕ) (n : ℕ) → 0 < n → 0 < length s → 0 < length (take n s)
still-some s n h f = omega (arith, length-take n s)

none_cut : (left line n : ℕ) (s : List ℕ) → length s ≤ 0 → take_lines left line (take n s) ≡ take_lines left line s
none_cut left line n s h =
    let a : length s ≡ 0 = omega arith in
    let b : length (take n s) ≡ 0 = omega (arith, length-take n s) in
    no_more left line (take n s) b ∙ sym (no_more left line s a)

by_line : (left line n : ℕ) (s : List ℕ) → 188 * suc left < n → 0 < length s
    → ((n' : ℕ) (s' : List ℕ) → 188 * left < n' → take_lines left (suc line) (take n' s') ≡ take_lines left (suc line) s')
    → (x : Option (Line × ℕ)) → read_line s ≡ x → take_lines (suc left) line (take n s) ≡ take_lines (suc left) line s
by_line left line n s h p i None e =
    bad_line left line (take n s) (still-some s n (omega arith) p) (bad_cut s n e (read_line (take n s)) refl) ∙ sym (bad_line left line s p e)
by_line left line n s h p i (Some (l, k)) e =
    let u = used_most s l k e in
    let w = line-some s l k e in
    let c : k ≤ n = omega arith in
    let f : 188 * left < n - k = omega arith in
    let b = before (two l) (nought_at l line) in
    good_line left line (take n s) l k (line_cut s n k c l e)
    ∙ ap (λ (x : List ℕ). b (take_lines left (suc line) x)) (cut_rest s n k c w.1)
    ∙ ap b (i (n - k) (drop k s) f)
    ∙ sym (good_line left line s l k e)

pub lines_cut : (left line n : ℕ) (s : List ℕ) → 188 * left < n → take_lines left line (take n s) ≡ take_lines left line s
lines_cut zero line n s h =
    ⊎_elim (λ p. one_too_many line (take n s) (still-some s n (omega arith) p) ∙ sym (one_too_many line s p)) (none_cut zero line n s) (lt-or-le 0 (length s))
lines_cut (suc left) line n s h =
    ⊎_elim
    (λ p. by_line left line n s h p (λ n' s' g. lines_cut left (suc line) n' s' g) (read_line s) refl)
    (none_cut (suc left) line n s)
    (lt-or-le 0 (length s))

sheet_cut : (s : List ℕ) (n : ℕ) → 48128 < n → sheet_lines (take n s) ≡ sheet_lines s
unfolding sheet_lines
sheet_cut s n h = lines_cut 256 1 n s h

-- the first 65,536 bytes give the same answer as all, and the same words
pub record SameRead (part whole : List ℕ) : Type 0 where
  pub says : (room : ℕ) → read_reply part room ≡ read_reply whole room
  pub puts : read_puts part ≡ read_puts whole

pub first_bytes : (s : List ℕ) → SameRead (take 65536 s) s
unfolding read_reply read_puts
first_bytes s =
    let e : sheet_lines (take 65536 s) ≡ sheet_lines s = sheet_cut s 65536 (omega arith) in
    record { says = λ room. rw e; puts = rw e }
