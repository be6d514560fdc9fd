-- At each place the text of what is left, written there, gives what is promised: writing one node and going on behind it changes nothing
-- of that. At the end nothing is left.
use native.Mathlib.Omega.{arith}
use native.Mathlib.Nat.{zero-add}
use Prim.Native.Nat.{ℕ, ◌+◌, ◌-◌, ◌/◌, ◌^◌, ◌≤◌, ◌<◌}
use mathlib.Core.Path.{◌≡◌, refl, ap, sym, ◌∙◌}
use mathlib.Core.List.{List, []}
use lib.ListN.{length, take, drop, length-drop, take-append-drop}
use Rattle.decimal.specs.Bytes.{at_front, Written}
use Rattle.decimal.proofs.Order.{rest}
use Rattle.decimal.proofs.Place.{at_place, length_place, lent, place_place, set_place}
use Rattle.members.specs.Members.{member_text}
use Rattle.members.specs.Steps.{id_text}
use Rattle.members.proofs.Written.{text_none}
use Rattle.members.proofs.Walk.{ids_left, left_fits, left_split, left_step, left_nothing, below_64, left-all}
use Rattle.members.proofs.put_members.Invariants.{Left}
use Rattle.members.proofs.put_members.Goals as goal

begin : (out : List ℕ) (m : ℕ) → m < 2 ^ 64 → (m ≡ 0 → ⊥) → length (member_text m) ≤ length out → Left out m out 0 m 0
begin out m h n r =
    record {
      fits = h;
      place = zero-add (length (ids_left 0 m)) ∙ ap length (left-all m n);
      same = refl;
      room = r;
      promised = ap (λ w. at_front w out) (left-all m n);
    }

module _ (out₀ : List ℕ) (m : ℕ) (out : List ℕ) (i q at : ℕ) (l : Left out₀ m out i q at) where
  module _ (h : i < 64) where
    -- there is room for the node and what follows
    room_for : at + length (id_text i q) + length (ids_left (i + 1) (q / 2)) ≤ length out
    room_for = omega (arith, l.place, l.same, l.room, left_step i q l.fits h)

    fits : at + length (id_text i q) ≤ length out
    fits = omega (arith, room_for)

    -- what is lent to the node
    lent_room : length (id_text i q) ≤ length (take (length out - at) (drop at out))
    lent_room = rw (rest out at) (omega (arith, fits, length-drop at out))

    -- a turn
    turn : Left out₀ m (at_place at (id_text i q) out) (i + 1) (q / 2) (at + length (id_text i q))
    turn =
        record {
          fits = left_fits i q l.fits h;
          place = omega (arith, l.place, left_step i q l.fits h);
          same = length_place at (id_text i q) out fits ∙ l.same;
          room = l.room;
          promised =
              place_place at (id_text i q) out fits (ids_left (i + 1) (q / 2)) room_for
              ∙ ap (λ w. at_place at w out) (sym (left_split i q l.fits h))
              ∙ l.promised;
        }

  -- with nothing left all is written
  done : q ≡ 0 → Written (member_text m) out₀ out at
  done z =
      let n : ids_left i q ≡ [] = left_nothing i q z in
      record { count = omega (arith, l.place, ap length n); bytes = sym (take-append-drop at out) ∙ (rw n at l.promised) }

pub bounds-out-0 : goal.bounds-out-0
bounds-out-0 c = let m = c.args.m in omega (arith, ap length (text_none m c.if-m-eq0.true))

pub returns-then-m-eq0 : goal.returns-then-m-eq0
returns-then-m-eq0 c =
    let a = c.args in
    let e = text_none a.m c.if-m-eq0.true in
    let h : 0 < length a.out.now = omega (arith, ap length e) in
    rw e (record { count = refl; bytes = set_place 0 45 a.out.now h })

pub loop-q-init : goal.loop-q-init
loop-q-init c =
    let a = c.args in
    begin a.out.now a.m (omega arith) c.if-m-eq0.false c.requires

pub slice_bounds-put_id-count : goal.slice_bounds-put_id-count
slice_bounds-put_id-count c = let l = c.loop-q in omega (arith, fits _ _ _ _ _ _ l.invariant (below_64 l.i l.q l.invariant.fits c.loop-q-test.true))

pub put_id-at-requires : goal.put_id-at-requires
put_id-at-requires c = let l = c.loop-q in lent_room _ _ _ _ _ _ l.invariant (below_64 l.i l.q l.invariant.fits c.loop-q-test.true)

pub overflow_add-at : goal.overflow_add-at
overflow_add-at c =
    let l = c.loop-q in
    omega (arith, fits _ _ _ _ _ _ l.invariant (below_64 l.i l.q l.invariant.fits c.loop-q-test.true), c.put_id-at.ensures.count, l.invariant.same)

pub overflow_add-i : goal.overflow_add-i
overflow_add-i c = let l = c.loop-q in omega (arith, below_64 l.i l.q l.invariant.fits c.loop-q-test.true)

pub loop-q-preserved : goal.loop-q-preserved
loop-q-preserved c =
    let p = c.put_id-at in
    let l = c.loop-q in
    let h = below_64 l.i l.q l.invariant.fits c.loop-q-test.true in
    rw (p.ensures.count, p.ensures.bytes, lent l.at (id_text l.i l.q) l.out (fits _ _ _ _ _ _ l.invariant h)) (turn _ _ _ _ _ _ l.invariant h)

pub returns : goal.returns
returns c = let z : c.loop-q.q ≡ 0 = omega arith in done _ _ _ _ _ _ c.loop-q.invariant z
