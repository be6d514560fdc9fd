-- The id is written at the front and the comma right behind it, which is the same as writing both at once.
use native.Mathlib.Omega.{arith}
use Prim.Native.Nat.{◌<◌}
use mathlib.Core.Path.{refl}
use lib.ListN.{length}
use Rattle.decimal.specs.Decimal.{numeral}
use Rattle.decimal.proofs.Place.{within_byte, next_byte}
use Rattle.members.proofs.Written.{id_out, id_last, id_more, id_in, length_more}
use Rattle.members.proofs.put_id.Goals as goal

pub returns-then-q-eq0 : goal.returns-then-q-eq0
returns-then-q-eq0 c =
    let a = c.args in
    rw (id_out a.i a.q c.if-q-eq0.true) (record { count = refl; bytes = refl })

pub put_number-k-requires : goal.put_number-k-requires
put_number-k-requires c =
    let a = c.args in
    omega (arith, id_in a.i a.q c.if-q-eq0.false)

pub returns-then-q-eq0-2 : goal.returns-then-q-eq0-2
returns-then-q-eq0-2 c =
    let a = c.args in
    rw (id_last a.i a.q c.if-q-eq0.false c.if-q-eq0-2.true) c.put_number-k.ensures

pub bounds-out-k : goal.bounds-out-k
bounds-out-k c =
    let room : let a = c.args in
    length (numeral a.i) < length a.out.now =
    let a = c.args in
    omega (arith, length_more a.i a.q c.if-q-eq0.false c.if-q-eq0-2.false, c.requires) in
    within_byte _ _ _ _ c.put_number-k.ensures room

pub overflow_add-result : goal.overflow_add-result
overflow_add-result c =
    let room : let a = c.args in
    length (numeral a.i) < length a.out.now =
    let a = c.args in
    omega (arith, length_more a.i a.q c.if-q-eq0.false c.if-q-eq0-2.false, c.requires) in
    omega (arith, room, c.put_number-k.ensures.count)

pub returns : goal.returns
returns c =
    let room : let a = c.args in
    length (numeral a.i) < length a.out.now =
    let a = c.args in
    omega (arith, length_more a.i a.q c.if-q-eq0.false c.if-q-eq0-2.false, c.requires) in
    let a = c.args in
    rw (id_more a.i a.q c.if-q-eq0.false c.if-q-eq0-2.false) (next_byte _ _ _ _ c.put_number-k.ensures room 44)
