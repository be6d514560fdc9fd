-- The two bytes of a `?` and its tab are set one behind the other; any other threshold is written as a number is.
use native.Mathlib.Omega.{arith}
use Prim.Native.Nat.{◌≤◌}
use mathlib.Core.Path.{◌≡◌, refl, ap}
use mathlib.Core.List.{[], ◌∷◌}
use borrow.Author.Tests.{eq-eqb}
use lib.ListN.{length, length-set}
use Rattle.decimal.specs.Bytes.{Written}
use Rattle.decimal.proofs.Place.{next_byte}
use Rattle.lines.specs.Lines.{threshold_text}
use Rattle.lines.proofs.Texts.{threshold_number}
use Rattle.lines.proofs.put_threshold.Goals as goal

pub bounds-out-0 : goal.bounds-out-0
unfolding threshold_text
bounds-out-0 c =
    let mark : threshold_text c.args.threshold ≡ 63 ∷ 9 ∷ [] = rw (eq-eqb _ _ c.if-threshold-eq0.true) in
    let room : 2 ≤ length c.args.out.now = omega (arith, c.requires, ap length mark) in
    omega (arith, room)

pub bounds-out-1 : goal.bounds-out-1
unfolding threshold_text
bounds-out-1 c =
    let mark : threshold_text c.args.threshold ≡ 63 ∷ 9 ∷ [] = rw (eq-eqb _ _ c.if-threshold-eq0.true) in
    let room : 2 ≤ length c.args.out.now = omega (arith, c.requires, ap length mark) in
    simp length-set (omega (arith, room))

pub returns-then-threshold-eq0 : goal.returns-then-threshold-eq0
unfolding threshold_text
returns-then-threshold-eq0 c =
    let mark : threshold_text c.args.threshold ≡ 63 ∷ 9 ∷ [] = rw (eq-eqb _ _ c.if-threshold-eq0.true) in
    let room : 2 ≤ length c.args.out.now = omega (arith, c.requires, ap length mark) in
    let d = c.args.out.now in
    let none : Written [] d d 0 = record { count = refl; bytes = refl } in
    rw mark (next_byte (63 ∷ []) d _ 1 (next_byte [] d d 0 none (omega (arith, room)) 63) (omega (arith, room)) 9)

pub put_field-requires : goal.put_field-requires
put_field-requires c =
    omega (arith, c.requires, ap length (threshold_number _ c.if-threshold-eq0.false))

pub returns : goal.returns
returns c = rw (threshold_number _ c.if-threshold-eq0.false) c.put_field.ensures
