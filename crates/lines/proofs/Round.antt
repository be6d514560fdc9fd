-- A line is its three fields, each read from where the one before ended; so it is read back as it is written, and what is read is the text
-- of the record, unless its threshold is a written 0, for which a `?` would be written.
use Prim.Native.Nat.{ℕ, zero, suc, ◌+◌, ◌^◌, ◌≤◌, ◌<◌}
use native.Mathlib.Omega.{arith}
use mathlib.Core.Path.{◌≡◌, refl, ap, sym, ◌∙◌}
use mathlib.Core.Bool.{false, cond}
use mathlib.Core.Logic.{⊎_elim}
use mathlib.Core.List.{List, ◌++◌, append_assoc}
use borrow.Author.Tests.{lt-ltb, le-ltb, ne_eqb}
use lib.Dec.{ltb}
use lib.ListN.{length, take, drop, length-append, length-drop, take-append-drop}
use lib.Seq.{take-add, drop-drop, drop-append_seam, length-take-le}
use Rattle.std.proofs.Common.{Option, Some, None}
use Rattle.decimal.specs.Decimal.{on_read}
use Rattle.decimal.proofs.Order.{lt-or-le}
use Rattle.decimal.proofs.Round.{read_same}
use Rattle.lines.specs.declared.Line.{Line}
use Rattle.lines.specs.Lines.{field_text, threshold_text, last_text, line_text, read_field, read_threshold, read_last, read_line, given, is_nought}
use Rattle.lines.proofs.Texts.{length_fields, length-threshold, threshold_number}
use Rattle.lines.proofs.Fields.{threshold_as, Allowed, ReadsField, ReadsThreshold, ReadsLast, field_back, field_forth, threshold_back, threshold_forth, last_back, last_forth}

-- the text of a line as it was written
unfoldable pub written_line : Line → List ℕ
written_line x = field_text x.level ++ (threshold_as x.threshold ++ last_text x.members)

-- the text of its record
abbrev pub record_line : Line → List ℕ
record_line x = line_text x.level (given x.threshold) x.members

as_record : (t : Option ℕ) → is_nought t ≡ false → threshold_as t ≡ threshold_text (given t)
unfolding threshold_text
as_record None e = refl
as_record (Some zero) e = absurd (cc)
as_record (Some (suc v)) e = sym (threshold_number (suc v) (λ z. omega arith))

-- where the threshold is no written 0 they are the same
pub line_as : (x : Line) → is_nought x.threshold ≡ false → written_line x ≡ record_line x
unfolding written_line line_text
line_as x e = ap (λ w. field_text x.level ++ (w ++ last_text x.members)) (as_record x.threshold e)

length-threshold_as : (t : Option ℕ) → length (threshold_as t) ≡ length (threshold_text (given t))
unfolding threshold_text
length-threshold_as None = refl
length-threshold_as (Some v) = sym (length-threshold v)

-- either way it has as many bytes
length_as : (x : Line) → length (written_line x) ≡ length (record_line x)
unfolding written_line
length_as x =
    let l = x.level in
    let t = x.threshold in
    let m = x.members in
    omega (
      arith,
      length-append (field_text l) (threshold_as t ++ last_text m),
      length-append (threshold_as t) (last_text m),
      length-threshold_as t,
      length_fields l (given t) m,
    )

-- what is written is read back, whatever follows
pub read_as : (x : Line) (rest : List ℕ) → x.level ≤ 3 → Allowed x.level x.threshold → x.members < 2 ^ 64
    → read_line (written_line x ++ rest) ≡ Some (x, length (record_line x))
unfolding read_line written_line
read_as x rest a b c =
    let l = x.level in
    let m = x.members in
    let w = threshold_as x.threshold in
    let l_small : x.level ≤ 255 = omega arith in
    rw (append_assoc, append_assoc w (last_text m) rest, field_back l (w ++ (last_text m ++ rest)) l_small)
    (simp (le-ltb 3 l a, ← drop-drop, drop-append_seam)
    (rw (threshold_back l x.threshold (last_text m ++ rest) b, drop-append_seam w (last_text m ++ rest), last_back m rest c)
    (ap (λ (n : ℕ). Some (x, n)) (omega (arith, length_fields l (given x.threshold) m, length-threshold_as x.threshold)))))

-- a threshold as a writer writes it
abbrev pub shown : ℕ → Option ℕ
shown zero = None
shown (suc t) = Some (suc t)

pub given_shown : (t : ℕ) → (given (shown t) ≡ t) × (is_nought (shown t) ≡ false)
given_shown zero = (refl, refl)
given_shown (suc t) = (refl, ne_eqb (suc t) 0 (λ z. omega arith))

shown_allowed : (l t : ℕ) → t ≤ 255 → (t ≡ 0 → l ≡ 0) → Allowed l (shown t)
shown_allowed l zero h d = d refl
shown_allowed l (suc t) h d = h

pub read_written : (l t m : ℕ) (rest : List ℕ) → l ≤ 3 → t ≤ 255 → m < 2 ^ 64 → (t ≡ 0 → l ≡ 0)
    → read_line (line_text l t m ++ rest) ≡ Some (record { level = l; threshold = shown t; members = m }, length (line_text l t m))
read_written l t m rest a b c d =
    let x : Line = record { level = l; threshold = shown t; members = m } in
    let g = given_shown t in
    let e : written_line x ≡ line_text l t m = rw g.0 at (line_as x g.1) in
    rw (e, g.0) at (read_as x rest a (shown_allowed l t b d) c)

-- the first k bytes of s are the line x
pub record Reads (s : List ℕ) (x : Line) (k : ℕ) : Type 0 where
  pub level : x.level ≤ 3
  pub allowed : Allowed x.level x.threshold
  pub threshold : given x.threshold ≤ 255
  pub members : x.members < 2 ^ 64
  pub text : take k s ≡ written_line x
  pub within : k ≤ length s

given_small : (l : ℕ) (t : Option ℕ) → Allowed l t → given t ≤ 255
given_small l None h = omega arith
given_small l (Some v) h = h

three : (s : List ℕ) (x : Line) (a b c : ℕ) → x.level ≤ 3 → ReadsField s x.level a → ReadsThreshold x.level (drop a s) x.threshold b
    → ReadsLast (drop (a + b) s) x.members c → Reads s x (a + b + c)
unfolding written_line
three s x a b c h f g w =
    record {
      level = h;
      allowed = g.allowed;
      threshold = given_small x.level x.threshold g.allowed;
      members = w.set;
      text =
          rw (take-add (a + b) c s, take-add a b s, f.text, g.text, w.text)
          (append_assoc (field_text x.level) (threshold_as x.threshold) (last_text x.members));
      within = omega (arith, f.within, g.within, w.within, length-drop a s, length-drop (a + b) s);
    }

module _ (s : List ℕ) (x : Line) (k : ℕ) where
  by_last : (l a : ℕ) (t : Option ℕ) (b : ℕ) → l ≤ 3 → ReadsField s l a → ReadsThreshold l (drop a s) t b → (y : Option (ℕ × ℕ))
      → read_last (drop (a + b) s) ≡ y
      → on_read {B = Option (Line × ℕ)} y None (λ m c. Some (record { level = l; threshold = t; members = m }, a + b + c)) ≡ Some (x, k) → Reads s x k
  by_last l a t b h f g None e r = absurd (cc)
  by_last l a t b h f g (Some (m, c)) e r =
      let y : Line = record { level = l; threshold = t; members = m } in
      let p = read_same y x (a + b + c) k r in
      rw (← p.0, ← p.1) (three s y a b c h f g (last_forth (drop (a + b) s) m c e))

  by_threshold : (l a : ℕ) → l ≤ 3 → ReadsField s l a → (y : Option (Option ℕ × ℕ)) → read_threshold l (drop a s) ≡ y
      → on_read {B = Option (Line × ℕ)} y None
      (λ t b. on_read {B = Option (Line × ℕ)} (read_last (drop (a + b) s)) None (λ m c. Some (record { level = l; threshold = t; members = m }, a + b + c)))
      ≡ Some (x, k)
      → Reads s x k
  by_threshold l a h f None e r = absurd (cc)
  by_threshold l a h f (Some (t, b)) e r = by_last l a t b h f (threshold_forth l (drop a s) t b e) (read_last (drop (a + b) s)) refl r

  by_level : (y : Option (ℕ × ℕ)) → read_field s ≡ y
      → on_read {B = Option (Line × ℕ)} y None
      (λ l a.
      cond (ltb 3 l) None
      (on_read {B = Option (Line × ℕ)} (read_threshold l (drop a s)) None
      (λ t b. on_read {B = Option (Line × ℕ)} (read_last (drop (a + b) s)) None (λ m c. Some (record { level = l; threshold = t; members = m }, a + b + c)))))
      ≡ Some (x, k)
      → Reads s x k
  by_level None e r = absurd (cc)
  by_level (Some (l, a)) e r =
      ⊎_elim
      (λ h. let z : None ≡ Some (x, k) = simp (lt-ltb 3 l h) at r in absurd (cc))
      (λ h. by_threshold l a h (field_forth s l a e) (read_threshold l (drop a s)) refl (simp (le-ltb 3 l h) at r))
      (lt-or-le 3 l)

-- what is read is the line as it was written
pub written_read : (s : List ℕ) (x : Line) (k : ℕ) → read_line s ≡ Some (x, k) → Reads s x k
unfolding read_line
written_read s x k e = by_level s x k (read_field s) refl e

-- as many bytes as the record's line has are used, and what is left follows the line as it was written
pub read_used : (s : List ℕ) (x : Line) (k : ℕ) → read_line s ≡ Some (x, k) → k ≡ length (record_line x)
read_used s x k e =
    let r = written_read s x k e in
    sym (length-take-le k s r.within) ∙ ap length r.text ∙ length_as x

pub read_split : (s : List ℕ) (x : Line) (k : ℕ) → read_line s ≡ Some (x, k) → s ≡ written_line x ++ drop k s
read_split s x k e = sym (take-append-drop k s) ∙ ap (λ w. w ++ drop k s) (written_read s x k e).text
