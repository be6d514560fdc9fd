-- A field is read back as it is written and the other way round: the byte behind it ends the number or the list, and must be the one asked. A `?` starts
-- no number, so a threshold is one or the other.
use Prim.Native.Nat.{ℕ, ◌+◌, ◌^◌, ◌≤◌, ◌<◌}
use native.Mathlib.Omega.{arith}
use native.Mathlib.Numerals.{add-one}
use mathlib.Core.Path.{◌≡◌, refl, ap, sym, ◌∙◌}
use mathlib.Core.Bool.{cond, ◌&&◌}
use mathlib.Core.Logic.{⊎_elim}
use mathlib.Core.List.{List, [], ◌∷◌, ◌++◌, append_assoc}
use borrow.Author.Tests.{eq-eqb, ne_eqb}
use lib.Dec.{eqb}
use lib.ListN.{length, get_or, take, length-append}
use lib.Seq.{get_or-append_seam, take-suc}
use Rattle.std.proofs.Common.{Option, Some, None}
use Rattle.decimal.specs.Decimal.{numeral, digit_at, digit_of, number_of, read_number, on_read}
use Rattle.decimal.proofs.Order.{same_or_not, inside}
use Rattle.decimal.proofs.Round as number
use Rattle.members.specs.Members.{member_text, read_members}
use Rattle.members.proofs.Round as members
use Rattle.lines.specs.Lines.{field_text, last_text, read_field, read_threshold, read_last}

tab_stops : (t : List ℕ) → digit_at (9 ∷ t) 0 ≡ None
unfolding digit_at digit_of
tab_stops t = refl

end_stops : (t : List ℕ) → digit_at (10 ∷ t) 0 ≡ None
unfolding digit_at digit_of
end_stops t = refl

pub field_back : (n : ℕ) (t : List ℕ) → n ≤ 255 → read_field (field_text n ++ t) ≡ Some (n, length (field_text n))
unfolding read_field field_text
field_back n t h =
    rw (append_assoc, number.read_written n (9 ∷ t) h (tab_stops t), get_or-append_seam (numeral n) 9 t 0, length-append)

pub last_back : (m : ℕ) (t : List ℕ) → m < 2 ^ 64 → read_last (last_text m ++ t) ≡ Some (m, length (last_text m))
unfolding read_last last_text
last_back m t h =
    let n : ◌≡◌ {A = ℕ} 10 44 → ⊥ = λ e. omega arith in
    rw (append_assoc, members.read_written m (10 ∷ t) h (end_stops t) n, get_or-append_seam (member_text m) 10 t 0, length-append)

-- x was read, and the byte b ends it
record Ended (s : List ℕ) (b v k : ℕ) (x : Option (ℕ × ℕ)) : Type 0 where
  pub place : ℕ
  pub read : x ≡ Some (v, place)
  pub byte : get_or s place 0 ≡ b
  pub used : place + 1 ≡ k

ended : (s : List ℕ) (b v k : ℕ) (x : Option (ℕ × ℕ))
    → on_read {B = Option (ℕ × ℕ)} x None (λ w j. cond (eqb (get_or s j 0) b) (Some (w, j + 1)) None) ≡ Some (v, k)
    → Ended s b v k x
ended s b v k None e = absurd (cc)
ended s b v k (Some (w, j)) e =
    ⊎_elim
    (λ t.
    let p = number.read_same w v (j + 1) k (simp (eq-eqb (get_or s j 0) b t) at e) in
    record { place = j; read = ap (λ (n : ℕ). Some (n, j)) p.0; byte = t; used = p.1 })
    (λ n. let z : None ≡ Some (v, k) = simp (ne_eqb (get_or s j 0) b n) at e in absurd (cc))
    (same_or_not (get_or s j 0) b)

-- what stands before a byte, and the byte
front : (s w : List ℕ) (k b : ℕ) → take k s ≡ w → get_or s k 0 ≡ b → 0 < b → (take (k + 1) s ≡ w ++ b ∷ []) × (k + 1 ≤ length s)
front s w k b e f h =
    let i : k < length s = inside s k (omega arith) in
    (rw (add-one k, take-suc s k 0 i, e, f), omega arith)

-- the first k bytes of s are the number v and a tab
pub record ReadsField (s : List ℕ) (v k : ℕ) : Type 0 where
  pub value : v ≤ 255
  pub text : take k s ≡ field_text v
  pub within : k ≤ length s

-- the first k bytes of s are the list of m and the line's end
pub record ReadsLast (s : List ℕ) (m k : ℕ) : Type 0 where
  pub set : m < 2 ^ 64
  pub text : take k s ≡ last_text m
  pub within : k ≤ length s

tab : (s : List ℕ) (w j : ℕ) → number.Reads s w j → get_or s j 0 ≡ 9 → ReadsField s w (j + 1)
unfolding field_text
tab s w j r e =
    let f = front s (numeral w) j 9 r.text e (omega arith) in
    record { value = r.value; text = f.0; within = f.1 }

line_end : (s : List ℕ) (w j : ℕ) → members.Reads s w j → get_or s j 0 ≡ 10 → ReadsLast s w (j + 1)
unfolding last_text
line_end s w j r e =
    let f = front s (member_text w) j 10 r.text e (omega arith) in
    record { set = r.set; text = f.0; within = f.1 }

pub field_forth : (s : List ℕ) (v k : ℕ) → read_field s ≡ Some (v, k) → ReadsField s v k
unfolding read_field
field_forth s v k e =
    let g = ended s 9 v k (read_number s) e in
    rw (← g.used) (tab s v g.place (number.written_read s v g.place g.read) g.byte)

pub last_forth : (s : List ℕ) (m k : ℕ) → read_last s ≡ Some (m, k) → ReadsLast s m k
unfolding read_last
last_forth s m k e =
    let g = ended s 10 m k (read_members s) e in
    rw (← g.used) (line_end s m g.place (members.written_read s m g.place g.read) g.byte)

-- ---- the threshold: its text as it was written
abbrev pub threshold_as : Option ℕ → List ℕ
threshold_as None = 63 ∷ 9 ∷ []
threshold_as (Some v) = field_text v

-- a `?` stands at level 0, and a number is at most 255
abbrev pub Allowed : (level : ℕ) → Option ℕ → Type 0
Allowed l None = l ≡ 0
Allowed l (Some v) = v ≤ 255

-- a `?` starts no number
no_number : (s : List ℕ) → get_or s 0 0 ≡ 63 → read_field s ≡ None
unfolding read_field read_number number_of digit_at digit_of
no_number s e = rw e

read_as_number : (l : ℕ) (s : List ℕ) (v k : ℕ) → read_field s ≡ Some (v, k) → read_threshold l s ≡ Some (Some v, k)
unfolding read_threshold
read_as_number l s v k e =
    ⊎_elim
    (λ q. let z : None ≡ Some (v, k) = sym (no_number s q) ∙ e in absurd (cc))
    (λ q. rw (ne_eqb (get_or s 0 0) 63 q, e))
    (same_or_not (get_or s 0 0) 63)

pub threshold_back : (l : ℕ) (t : Option ℕ) (rest : List ℕ) → Allowed l t → read_threshold l (threshold_as t ++ rest) ≡ Some (t, length (threshold_as t))
unfolding read_threshold
threshold_back l None rest a = rw a
threshold_back l (Some v) rest a = read_as_number l (field_text v ++ rest) v (length (field_text v)) (field_back v rest a)

-- the first k bytes of s are a threshold of a record of level l, and a tab
pub record ReadsThreshold (l : ℕ) (s : List ℕ) (t : Option ℕ) (k : ℕ) : Type 0 where
  pub allowed : Allowed l t
  pub text : take k s ≡ threshold_as t
  pub within : k ≤ length s

mark : (s : List ℕ) → get_or s 0 0 ≡ 63 → get_or s 1 0 ≡ 9 → ReadsThreshold 0 s None 2
mark [] e f = absurd (omega arith)
mark (x ∷ []) e f = absurd (omega arith)
mark (x ∷ y ∷ s) e f = record { allowed = refl; text = cc; within = omega arith }

module _ (l : ℕ) (s : List ℕ) (t : Option ℕ) (k : ℕ) where
  by_mark : get_or s 0 0 ≡ 63
      → cond {A = Option (Option ℕ × ℕ)} (eqb l 0 && eqb (get_or s 1 0) 9) (Some (None, 2)) None ≡ Some (t, k) → ReadsThreshold l s t k
  by_mark q e =
      ⊎_elim
      (λ a.
      ⊎_elim
      (λ b.
      let p = number.read_same None t 2 k (simp (eq-eqb l 0 a, eq-eqb (get_or s 1 0) 9 b) at e) in
      rw (a, ← p.0, ← p.1) (mark s q b))
      (λ b. let z : None ≡ Some (t, k) = simp (eq-eqb l 0 a, ne_eqb (get_or s 1 0) 9 b) at e in absurd (cc))
      (same_or_not (get_or s 1 0) 9))
      (λ a. let z : None ≡ Some (t, k) = simp (ne_eqb l 0 a) at e in absurd (cc))
      (same_or_not l 0)

  by_field : (x : Option (ℕ × ℕ)) → read_field s ≡ x
      → on_read {B = Option (Option ℕ × ℕ)} x None (λ v j. Some (Some v, j)) ≡ Some (t, k) → ReadsThreshold l s t k
  by_field None e g = absurd (cc)
  by_field (Some (v, j)) e g =
      let p = number.read_same (Some v) t j k g in
      let r = field_forth s v j e in
      rw (← p.0, ← p.1) (record { allowed = r.value; text = r.text; within = r.within })

  pub threshold_forth : read_threshold l s ≡ Some (t, k) → ReadsThreshold l s t k
  unfolding read_threshold
  threshold_forth e =
      ⊎_elim
      (λ q. by_mark q (simp (eq-eqb (get_or s 0 0) 63 q) at e))
      (λ q. by_field (read_field s) refl (simp (ne_eqb (get_or s 0 0) 63 q) at e))
      (same_or_not (get_or s 0 0) 63)
