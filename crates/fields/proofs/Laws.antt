-- A line is its fields one after the other, each with the byte behind it; so what is still to be written at a field is that field and what
-- is still to be written at the next.
use Prim.Native.Nat.{ℕ, suc, ◌+◌, ◌*◌, ◌^◌, ◌≤◌, ◌<◌}
use native.Mathlib.Omega.{arith}
use mathlib.Core.Path.{◌≡◌, refl, sym, ap, ◌∙◌}
use mathlib.Core.List.{List, [], ◌∷◌, ◌++◌, append_assoc, append-nil}
use Rattle.decimal.specs.Bytes.{Written}
use Rattle.decimal.proofs.Numeral.{length_word}
use Rattle.members.proofs.Written.{length-members}
use lib.ListN.{length, drop, get_or, length-append, length-drop, drop_of_length-le}
use lib.Seq.{drop-cons}
use borrow.Author.Tests.{lt-ltb, le-ltb}
use Rattle.words.specs.Words.{word_text}
use Rattle.words.specs.declared.Word.{Word}
use Rattle.words.specs.declared.Word.TheVariants as Wx
use Rattle.fields.specs.declared.Field.{Field}
use Rattle.fields.specs.declared.Field.TheVariants as Fx
use Rattle.fields.specs.Fields.{row, field_text, texts, line_of, end_at, ended}

-- one field more, whatever follows
row_more : (w v : List ℕ) (vs : List (List ℕ)) → row (w ∷ v ∷ vs) ≡ ended w 9 ++ row (v ∷ vs)
unfolding row ended
row_more w v vs = simp append_assoc

row_last : (w : List ℕ) → row (w ∷ []) ≡ ended w 10 ++ row []
unfolding row ended
row_last w = simp append-nil

step : (x : Field) (l : List Field) (i n : ℕ) → n ≡ i + suc (length l) → line_of (x ∷ l) ≡ ended (field_text x) (end_at n i) ++ line_of l
unfolding line_of texts end_at
step x [] i n e = let h : n ≤ i + 1 = omega arith in rw (le-ltb (i + 1) n h) (row_last (field_text x))
step x (y ∷ l) i n e = let h : i + 1 < n = omega arith in rw (lt-ltb (i + 1) n h) (row_more (field_text x) (field_text y) (texts l))

-- the line from a field on
pub next_field : (l : List Field) (i : ℕ) (d : Field) → i < length l
    → line_of (drop i l) ≡ ended (field_text (get_or l i d)) (end_at (length l) i) ++ line_of (drop (i + 1) l)
next_field l i d h =
    let m : i + 1 ≡ suc i = omega arith in
    let z : length l ≡ i + suc (length (drop (suc i) l)) = omega (arith, length-drop (suc i) l) in
    rw (m, drop-cons l i d h) (step (get_or l i d) (drop (suc i) l) i (length l) z)

-- nothing is left
pub no_field : (l : List Field) (i : ℕ) → length l ≤ i → line_of (drop i l) ≡ []
unfolding line_of texts row
no_field l i h = rw (drop_of_length-le l h)

length-ended : (w : List ℕ) (e : ℕ) → length (ended w e) ≡ length w + 1
unfolding ended
length-ended w e = length-append w (e ∷ [])

-- ---- how long a line can be: a number of 64 bits has at most twenty digits, a member list at most 181 bytes, a word eight
word_most : (w : Word) → length (word_text w) ≤ 181
word_most Wx.Refused = omega arith
word_most Wx.Nodes = omega arith
word_most Wx.Sets = omega arith
word_most Wx.Verdict = omega arith
word_most Wx.Yes = omega arith
word_most Wx.No = omega arith
word_most Wx.Hyphen = omega arith
word_most Wx.Minimal = omega arith
word_most Wx.Q = omega arith
word_most Wx.Blocking = omega arith
word_most Wx.B = omega arith
word_most Wx.Blank = omega arith

-- a number that a field holds has 64 bits
abbrev pub in_word : Field → Type 0
in_word (Fx.Fixed w) = Unit
in_word (Fx.Number n) = n < 2 ^ 64
in_word (Fx.Set s) = Unit

pub field_most : (x : Field) → in_word x → length (field_text x) ≤ 181
field_most (Fx.Fixed w) h = word_most w
field_most (Fx.Number n) h = omega (arith, length_word n h)
field_most (Fx.Set s) h = length-members s

pub line_most : (l : List Field) → ((i : ℕ) → in_word (get_or l i (Fx.Fixed Wx.Refused))) → length (line_of l) ≤ 182 * length l
line_most [] h = omega (arith, ap (length {A = ℕ}) (no_field [] 0 (omega arith)))
line_most (x ∷ l) h =
    let f = end_at (0 + suc (length l)) 0 in
    omega (
      arith,
      ap (length {A = ℕ}) (step x l 0 (0 + suc (length l)) refl),
      length-append (ended (field_text x) f) (line_of l),
      length-ended (field_text x) f,
      field_most x (h 0),
      line_most l (λ i. h (suc i)),
    )

-- what is counted of a line: a field more, with the byte behind it
pub length_field : (l : List Field) (i : ℕ) (d : Field) → i < length l
    → length (line_of (drop i l)) ≡ length (field_text (get_or l i d)) + 1 + length (line_of (drop (i + 1) l))
length_field l i d h =
    let x = field_text (get_or l i d) in
    let e = end_at (length l) i in
    omega (arith, ap (length {A = ℕ}) (next_field l i d h), length-append (ended x e) (line_of (drop (i + 1) l)), length-ended x e)

pub length_rest : (l : List Field) (i : ℕ) → length l ≤ i → length (line_of (drop i l)) ≡ 0
length_rest l i h = ap (length {A = ℕ}) (no_field l i h)

-- ---- what a writer of a text promises fits one result only
pub written_exact : (w d a b : List ℕ) (n m : ℕ) → Written w d a n → Written w d b m → (a ≡ b) × (n ≡ m)
written_exact w d a b n m p q = (p.bytes ∙ sym q.bytes, p.count ∙ sym q.count)
