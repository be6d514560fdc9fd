-- What the lines from a place come to is decided by the next line: there is none, it is one too many, it is malformed, or its record
-- stands before what follows, and so does a written 0.
use Prim.Native.Nat.{ℕ, zero, suc, ◌+◌, ◌-◌, ◌*◌, ◌≤◌, ◌<◌}
use native.Mathlib.Omega.{arith}
use native.Mathlib.Numerals.{add-one}
use mathlib.Core.Path.{◌≡◌, refl, ap, ap₂, sym, ◌∙◌}
use mathlib.Core.Bool.{cond}
use mathlib.Core.List.{List, [], ◌∷◌, ◌++◌, append_assoc, append-nil}
use borrow.Author.Tests.{eq-eqb, ne_eqb}
use lib.ListN.{length, take, drop, set, length-drop, length-set}
use lib.Seq.{drop-drop, take-suc-set, length-take-le}
use Rattle.std.proofs.Common.{Some, None, Ok}
use Rattle.lines.specs.Lines.{read_line, given, is_nought}
use Rattle.lines.specs.declared.Line.{Line}
use Rattle.lines.proofs.Round.{written_read, read_used}
use Rattle.lines.proofs.Texts.{length_some}
use Rattle.sheets.specs.Sheets.{Taken, words, stops, earlier, before, take_lines, sheet_lines}
use Rattle.sheets.specs.Promises.{Takes, with_record}

-- no byte is left
pub no_more : (left line : ℕ) (s : List ℕ) → length s ≡ 0 → take_lines left line s ≡ words [] 0
unfolding take_lines
no_more zero line s h = rw (eq-eqb (length s) 0 h)
no_more (suc left) line s h = rw (eq-eqb (length s) 0 h)

-- a byte is left where no line is left to take
pub one_too_many : (line : ℕ) (s : List ℕ) → 0 < length s → take_lines 0 line s ≡ stops 1 257
unfolding take_lines
one_too_many line s h = let n : length s ≡ 0 → ⊥ = λ e. omega arith in rw (ne_eqb (length s) 0 n)

pub bad_line : (left line : ℕ) (s : List ℕ) → 0 < length s → read_line s ≡ None → take_lines (suc left) line s ≡ stops 12 line
unfolding take_lines
bad_line left line s h e = let n : length s ≡ 0 → ⊥ = λ z. omega arith in rw (ne_eqb (length s) 0 n, e)

-- a good line has a byte
pub line-some : (s : List ℕ) (x : Line) (k : ℕ) → read_line s ≡ Some (x, k) → (0 < k) × (k ≤ length s)
line-some s x k e = (omega (arith, read_used s x k e, length_some x.level (given x.threshold) x.members), (written_read s x k e).within)

-- the words of a line's record, and the line itself if its threshold is a written 0
abbrev pub two : Line → List ℕ
two x = (given x.threshold + 256 * x.level) ∷ x.members ∷ []

abbrev pub nought_at : Line → ℕ → ℕ
nought_at x line = cond (is_nought x.threshold) line 0

pub good_line : (left line : ℕ) (s : List ℕ) (x : Line) (k : ℕ) → read_line s ≡ Some (x, k)
    → take_lines (suc left) line s ≡ before (two x) (nought_at x line) (take_lines left (suc line) (drop k s))
unfolding take_lines
good_line left line s x k e =
    let h = line-some s x k e in
    let n : length s ≡ 0 → ⊥ = λ z. omega arith in
    rw (ne_eqb (length s) 0 n, e)

pub before_nothing : (x : Taken) → before [] 0 x ≡ x
before_nothing (words v y) = refl
before_nothing (stops k p) = refl

earlier-none : (x : ℕ) → earlier x 0 ≡ x
earlier-none zero = refl
earlier-none (suc x) = refl

earlier-earlier : (x y z : ℕ) → earlier x (earlier y z) ≡ earlier (earlier x y) z
earlier-earlier zero y z = refl
earlier-earlier (suc x) y z = refl

pub before-before : (u v : List ℕ) (x y : ℕ) (w : Taken) → before u x (before v y w) ≡ before (u ++ v) (earlier x y) w
before-before u v x y (words w z) = ap₂ words (sym (append_assoc u v w)) (earlier-earlier x y z)
before-before u v x y (stops k p) = refl

one_less : (r : ℕ) → r < 256 → 256 - r ≡ suc (256 - (r + 1))
one_less r h = omega arith

-- a record's two words are put behind those before
two_words : (o : List ℕ) (r l t m : ℕ) → 2 * r + 1 < length o
    → take (2 * (r + 1)) (with_record o r l t m) ≡ take (2 * r) o ++ ((t + 256 * l) ∷ m ∷ [])
two_words o r l t m h =
    let c = t + 256 * l in
    let n : 2 * (r + 1) ≡ suc (suc (2 * r)) = omega arith in
    let a : 2 * r < length o = omega arith in
    let b : suc (2 * r) < length (set o (2 * r) c) = omega (arith, length-set o (2 * r) c) in
    rw (n, add-one, take-suc-set (set o (2 * r) c) (suc (2 * r)) m b, take-suc-set o (2 * r) c a) (append_assoc (take (2 * r) o) (c ∷ []) (m ∷ []))

pub length_record : (o : List ℕ) (r l t m : ℕ) → length (with_record o r l t m) ≡ length o
length_record o r l t m = length-set (set o (2 * r) (t + 256 * l)) (2 * r + 1) m ∙ length-set o (2 * r) (t + 256 * l)

-- ---- The words of r records stand at the front of o, and the lines from `at` on are still to be taken. The first of those before whose threshold is a
-- written 0 is x.
abbrev pub TakenUpTo : (s o : List ℕ) (at r x : ℕ) → Type 0
TakenUpTo s o at r x = sheet_lines s ≡ before (take (2 * r) o) x (take_lines (256 - r) (r + 1) (drop at s))

module _ (s o : List ℕ) (at r x : ℕ) (e : TakenUpTo s o at r x) where
  pub all_taken : length s ≤ at → 2 * r ≤ length o → Takes (sheet_lines s) o (Ok (record { count = 2 * r; nought = x }))
  all_taken h f =
      let z : length (drop at s) ≡ 0 = omega (arith, length-drop at s) in
      let w : sheet_lines s ≡ words (take (2 * r) o) x =
      e ∙ ap (before (take (2 * r) o) x) (no_more (256 - r) (r + 1) (drop at s) z) ∙ ap₂ words (append-nil (take (2 * r) o)) (earlier-none x) in
      let n : length (take (2 * r) o) ≡ 2 * r = length-take-le (2 * r) o f in
      rw w (ap (λ (k : ℕ). Ok (record { count = k; nought = x })) (sym n), ap (λ (k : ℕ). take k o) n)

  -- what stops the lines from `at` on stops them all
  pub stopped : (k p : ℕ) → take_lines (256 - r) (r + 1) (drop at s) ≡ stops k p → sheet_lines s ≡ stops k p
  stopped k p h = e ∙ ap (before (take (2 * r) o) x) h

  pub surplus : at < length s → r ≡ 256 → sheet_lines s ≡ stops 1 257
  surplus h f =
      stopped 1 257
      (ap (λ (n : ℕ). take_lines n (r + 1) (drop at s)) (omega arith) ∙ one_too_many (r + 1) (drop at s) (omega (arith, length-drop at s)))

  pub malformed : at < length s → r < 256 → read_line (drop at s) ≡ None → sheet_lines s ≡ stops 12 (r + 1)
  malformed h f b =
      stopped 12 (r + 1)
      (ap (λ (n : ℕ). take_lines n (r + 1) (drop at s)) (one_less r f)
      ∙ bad_line (256 - (r + 1)) (r + 1) (drop at s) (omega (arith, length-drop at s)) b)

  -- one more record
  pub one_more : (l : Line) (k : ℕ) → r < 256 → 2 * r + 1 < length o → read_line (drop at s) ≡ Some (l, k)
      → TakenUpTo s (with_record o r l.level (given l.threshold) l.members) (at + k) (r + 1) (earlier x (nought_at l (r + 1)))
  one_more l k f h g =
      let t = given l.threshold in
      let w : take (2 * (r + 1)) (with_record o r l.level t l.members) ≡ take (2 * r) o ++ two l = two_words o r l.level t l.members h in
      e
      ∙ ap (λ (n : ℕ). before (take (2 * r) o) x (take_lines n (r + 1) (drop at s))) (one_less r f)
      ∙ ap (before (take (2 * r) o) x) (good_line (256 - (r + 1)) (r + 1) (drop at s) l k g)
      ∙ before-before (take (2 * r) o) (two l) x (nought_at l (r + 1)) (take_lines (256 - (r + 1)) (suc (r + 1)) (drop k (drop at s)))
      ∙ rw (← w, drop-drop, add-one (r + 1))
