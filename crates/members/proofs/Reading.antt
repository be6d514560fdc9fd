-- While ids are read, the whole reading is what was read so far joined with the reading of the rest; each id that is read goes over from the
-- one to the other. The ids so far lie below the least that may follow, so that one more power of two fits the mask.
use Prim.Native.Nat.{ℕ, suc, ◌+◌, ◌-◌, ◌^◌, ◌≤◌, ◌<◌}
use native.Mathlib.Omega.{arith}
use native.Mathlib.Nat.{pow-succ', zero-add, add_assoc}
use native.Mathlib.Numerals.{add-one}
use mathlib.Core.Path.{◌≡◌, refl, ap, sym, ◌∙◌}
use mathlib.Core.Bool.{cond}
use mathlib.Core.List.{List}
use borrow.Author.Tests.{eq-eqb, ne_eqb}
use lib.Dec.{eqb}
use lib.ListN.{length, get_or, take, drop, length-drop}
use lib.Seq.{drop-drop}
use Rattle.std.proofs.lemmas.List.{get_or-drop}
use lib.Pow.{pow_mono}
use Rattle.std.proofs.Common.{Option, Some, None}
use Rattle.decimal.specs.Decimal.{on_read}
use Rattle.decimal.proofs.Order.{inside as within_text, rest}
use Rattle.members.specs.Members.{read_id, join, read_ids}
use Rattle.members.proofs.One.{Took, took}

-- up to the place `at` the ids of `mask` were read, and at most `left` more may follow
pub record Ready (s : List ℕ) (left least mask at : ℕ) : Type 0 where
  pub inside : at ≤ length s
  pub ids : least ≤ 64
  pub below : mask < 2 ^ least
  pub whole : read_ids 64 s 0 ≡ join mask at (read_ids left (drop at s) least)

join_nothing : (x : Option (ℕ × ℕ)) → join 0 0 x ≡ x
unfolding join
join_nothing None = refl
join_nothing (Some (m, u)) = rw (zero-add m, zero-add u)

join-join : (m u m' u' : ℕ) (x : Option (ℕ × ℕ)) → join m u (join m' u' x) ≡ join (m + m') (u + u') x
unfolding join
join-join m u m' u' None = refl
join-join m u m' u' (Some (m'', u'')) = rw (add_assoc m m' m'', add_assoc u u' u'')

pub begin : (s : List ℕ) → Ready s 64 0 0 0
begin s = record { inside = omega arith; ids = omega arith; below = omega arith; whole = sym (join_nothing (read_ids 64 s 0)) }

turn : (left more : ℕ) (t : List ℕ) (least : ℕ) → left ≡ suc more
    → read_ids left t least
    ≡ on_read {B = Option (ℕ × ℕ)} (read_id t least) None
    (λ v k. cond (eqb (get_or t k 0) 44) (join (2 ^ v) (k + 1) (read_ids more (drop (k + 1) t) (v + 1))) (Some (2 ^ v, k)))
unfolding read_ids
turn left more t least h = rw h

module _ (s : List ℕ) (left least mask at : ℕ) (r : Ready s left least mask at) where
  -- one more power of two
  sum_below : (v : ℕ) → least ≤ v → mask + 2 ^ v < 2 ^ (v + 1)
  sum_below v h = rw (add-one v, pow-succ' 2 v) (omega (arith, pow_mono h, r.below))

  -- the id v is next, in k bytes, and at most `more` may follow
  module _ (more v k : ℕ) (some : left ≡ suc more) (e : read_id (drop at s) least ≡ Some (v, k)) where
    next_took : Took (drop at s) least v k
    next_took = took (drop at s) least v k e

    sum_fits : mask + 2 ^ v < 2 ^ 64
    sum_fits =
        let b : v + 1 ≤ 64 = omega (arith, next_took.high) in
        let p : 2 ^ (v + 1) ≤ 2 ^ 64 = pow_mono b in
        omega (arith, sum_below v next_took.low)

    ready_more : get_or s (at + k) 0 ≡ 44 → Ready s more (v + 1) (mask + 2 ^ v) (at + k + 1)
    ready_more c =
        let h : at + k < length s = within_text s (at + k) (omega arith) in
        let a : at + (k + 1) ≡ at + k + 1 = omega arith in
        let b : get_or (drop at s) k 0 ≡ 44 = rw (get_or-drop at s k 0) c in
        let t : read_ids left (drop at s) least ≡ join (2 ^ v) (k + 1) (read_ids more (drop (k + 1) (drop at s)) (v + 1)) =
        turn left more (drop at s) least some ∙ rw e (simp (eq-eqb (get_or (drop at s) k 0) 44 b)) in
        record {
          inside = omega arith;
          ids = omega (arith, next_took.high);
          below = sum_below v next_took.low;
          whole =
              r.whole
              ∙ ap (join mask at) t
              ∙ join-join mask at (2 ^ v) (k + 1) (read_ids more (drop (k + 1) (drop at s)) (v + 1))
              ∙ rw (drop-drop, a);
        }

    ready_last : (get_or s (at + k) 0 ≡ 44 → ⊥) → read_ids 64 s 0 ≡ Some (mask + 2 ^ v, at + k)
    unfolding join
    ready_last n =
        let b : get_or (drop at s) k 0 ≡ 44 → ⊥ = λ c. n (rw (get_or-drop at s k 0) at c) in
        let t : read_ids left (drop at s) least ≡ Some (2 ^ v, k) =
        turn left more (drop at s) least some ∙ rw e (simp (ne_eqb (get_or (drop at s) k 0) 44 b)) in
        r.whole ∙ ap (join mask at) t

  pub ready_bad : (more : ℕ) → left ≡ suc more → read_id (drop at s) least ≡ None → read_ids 64 s 0 ≡ None
  unfolding join
  ready_bad more h e =
      let t : read_ids left (drop at s) least ≡ None = turn left more (drop at s) least h ∙ rw e refl in
      r.whole ∙ ap (join mask at) t

  pub ready_out : left ≡ 0 → read_ids 64 s 0 ≡ None
  unfolding join read_ids
  ready_out e = r.whole ∙ rw e

-- what follows where the id v was read in k bytes: a comma makes ready for the rest, and any other byte ends the reading
pub record Next (s : List ℕ) (more mask at v k : ℕ) : Type 0 where
  pub id : v ≤ 63
  pub sum : mask + 2 ^ v < 2 ^ 64
  pub end : at + k ≤ length s
  pub comma : get_or s (at + k) 0 ≡ 44 → Ready s more (v + 1) (mask + 2 ^ v) (at + k + 1)
  pub last : (get_or s (at + k) 0 ≡ 44 → ⊥) → read_ids 64 s 0 ≡ Some (mask + 2 ^ v, at + k)

pub next : (s : List ℕ) (i least mask at : ℕ) → Ready s (64 - i) least mask at → i < 64
    → (v k : ℕ) → Some (v, k) ≡ read_id (take (length s - at) (drop at s)) least → Next s (64 - (i + 1)) mask at v k
next s i least mask at r h v k q =
    let e : read_id (drop at s) least ≡ Some (v, k) = rw (rest s at) at (sym q) in
    let m : 64 - i ≡ suc (64 - (i + 1)) = omega arith in
    let o = took (drop at s) least v k e in
    record {
      id = o.high;
      sum = sum_fits s (64 - i) least mask at r (64 - (i + 1)) v k m e;
      end = omega (arith, o.within, length-drop at s, r.inside);
      comma = ready_more s (64 - i) least mask at r (64 - (i + 1)) v k m e;
      last = ready_last s (64 - i) least mask at r (64 - (i + 1)) v k m e;
    }
