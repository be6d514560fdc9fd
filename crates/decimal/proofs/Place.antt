-- Writing w at a place keeps what stands before and after it, so writing u and then v right behind it is writing u ++ v.
use Prim.Native.Nat.{ℕ, suc, ◌+◌, ◌-◌, ◌≤◌, ◌<◌}
use native.Mathlib.Omega.{arith}
use native.Mathlib.Numerals.{add-one}
use native.Mathlib.Nat.{add_assoc, zero-add}
use mathlib.Core.Path.{◌≡◌, ap, sym, ◌∙◌}
use mathlib.Core.List.{List, [], ◌∷◌, ◌++◌, append_assoc, append-nil}
use lib.ListN.{length, take, drop, set, length-append, length-take, length-drop, drop_of_length-le}
use lib.Seq.{drop-drop, set_split, take_at, drop_at, length-take-le}
use borrow.Rule.Slice.PartMut.{put_mid}
use Rattle.decimal.specs.Bytes.{at_front, Written}
use Rattle.decimal.proofs.Order.{rest}

-- w at the place `at` of d, and the rest of d as before
abbrev pub at_place : ℕ → List ℕ → List ℕ → List ℕ
at_place at w d = take at d ++ at_front w (drop at d)

module _ (at : ℕ) (w d : List ℕ) (fits : at + length w ≤ length d) where
  pub length_place : length (at_place at w d) ≡ length d
  length_place =
      omega (
        arith,
        length-append (take at d) (at_front w (drop at d)),
        length-append w (drop (length w) (drop at d)),
        length-take at d,
        length-drop (length w) (drop at d),
        length-drop at d,
      )

  -- a call that is lent the bytes from `at` on and writes w at their front
  pub lent : put_mid at (length d - at) d (at_front w (take (length d - at) (drop at d))) ≡ at_place at w d
  lent =
      let z : length (drop at d) ≤ length d - at = omega (arith, length-drop at d) in
      rw (rest d at, drop_of_length-le (drop at d) z) (simp append-nil)

  -- what is written next, right behind w
  pub place_place : (v : List ℕ) → at + length w + length v ≤ length d → at_place (at + length w) v (at_place at w d) ≡ at_place at (w ++ v) d
  place_place v h =
      let a : length (take at d) ≡ at = length-take-le at d (omega arith) in
      let b : length (take at d ++ w) ≡ at + length w = omega (arith, length-append (take at d) w) in
      let e : at_place at w d ≡ (take at d ++ w) ++ drop (length w) (drop at d) = sym (append_assoc (take at d) w (drop (length w) (drop at d))) in
      rw (e, take_at (take at d ++ w) (drop (length w) (drop at d)) (at + length w) b, drop_at (take at d ++ w) (drop (length w) (drop at d)) (at + length w) b)
      (simp (append_assoc, drop-drop, length-append, add_assoc))

-- one byte
pub set_place : (at x : ℕ) (d : List ℕ) → at < length d → set d at x ≡ at_place at (x ∷ []) d
set_place at x d h = rw (set_split d at x h, drop-drop, add-one)

-- writing w before a byte that is set already is writing w and the byte
pub front_set : (w : List ℕ) (x : ℕ) (d : List ℕ) → length w < length d → at_front w (set d (length w) x) ≡ at_front (w ++ x ∷ []) d
front_set w x d h =
    let a : length (take (length w) d) ≡ length w = length-take-le (length w) d (omega arith) in
    rw (set_split d (length w) x h, drop_at (take (length w) d) (x ∷ drop (suc (length w)) d) (length w) a, length-append, add-one)
    (simp append_assoc)

-- what is written behind a front makes a longer front
pub front_place : (u v d : List ℕ) → length u + length v ≤ length d → at_place (length u) v (at_front u d) ≡ at_front (u ++ v) d
front_place u v d h =
    let a : 0 + length u ≤ length d = omega arith in
    let b : 0 + length u + length v ≤ length d = omega arith in
    rw zero-add at (place_place 0 u d a v b)

pub length_front : (w d : List ℕ) → length w ≤ length d → length (at_front w d) ≡ length d
length_front w d h = let a : 0 + length w ≤ length d = omega arith in length_place 0 w d a

-- behind u, which was written into d, one byte is set
module _ (u d o : List ℕ) (at : ℕ) (h : Written u d o at) (fits : length u < length d) where
  pub within_byte : at < length o
  within_byte =
      let a : length u ≤ length d = omega arith in
      omega (arith, h.count, ap length h.bytes, length_front u d a)

  pub next_byte : (x : ℕ) → Written (u ++ x ∷ []) d (set o at x) (at + 1)
  next_byte x =
      let b : length u + 1 ≤ length d = omega arith in
      record {
        count = omega (arith, h.count, length-append u (x ∷ []));
        bytes = set_place at x o within_byte ∙ rw (h.count, h.bytes) (front_place u (x ∷ []) d b);
      }

-- behind u, which was written into d, what is left is lent to a writer of v
module _ (u d o : List ℕ) (at : ℕ) (h : Written u d o at) (v : List ℕ) (fits : length u + length v ≤ length d) where
  fits_left : at + length v ≤ length o
  fits_left =
      let a : length u ≤ length d = omega arith in
      omega (arith, h.count, ap length h.bytes, length_front u d a)

  pub within : at ≤ length o
  within = omega (arith, fits_left)

  pub room : length v ≤ length (take (length o - at) (drop at o))
  room = rw (rest o at) (omega (arith, fits_left, length-drop at o))

  pub next : (n : ℕ) (w : List ℕ) → Written v (take (length o - at) (drop at o)) w n → Written (u ++ v) d (put_mid at (length o - at) o w) (at + n)
  next n w e =
      record {
        count = omega (arith, h.count, e.count, length-append u v);
        bytes = rw e.bytes (lent at v o fits_left ∙ rw (h.count, h.bytes) (front_place u v d fits));
      }
