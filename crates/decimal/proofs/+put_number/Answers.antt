-- One digit or two are set at the front. Of a longer number, the digits before the last are the numeral of a tenth of the number, and the
-- last stands right behind them.
use native.Mathlib.Omega.{arith}
use Prim.Native.Nat.{ℕ, ◌+◌, ◌/◌, ◌%◌, ◌<◌}
use mathlib.Core.Path.{refl}
use mathlib.Core.List.{List, [], ◌∷◌}
use lib.ListN.{length, set}
use Rattle.decimal.specs.Bytes.{Written}
use Rattle.decimal.specs.Decimal.{numeral}
use Rattle.decimal.proofs.Numeral.{numeral_digit, numeral_2, numeral_tens, length_digit, length_2, length_tens}
use Rattle.decimal.proofs.Place.{within_byte, next_byte}
use Rattle.decimal.proofs.+put_number.Goals as goal

pub returns-then-n-lt10 : goal.returns-then-n-lt10
returns-then-n-lt10 t c =
    let a = c.args in
    let d = a.out.now in
    let room : 0 < length d = omega (arith, length_digit a.n c.if-n-lt10.true) in
    rw (numeral_digit a.n c.if-n-lt10.true) (next_byte [] d d 0 (record { count = refl; bytes = refl }) room (48 + a.n))

-- of two digits, the first stands at the front
first_of_two : (n : ℕ) (d : List ℕ) → 1 < length d → Written ((48 + n / 10) ∷ []) d (set d 0 (48 + n / 10)) 1
first_of_two n d h = next_byte [] d d 0 (record { count = refl; bytes = refl }) (omega arith) (48 + n / 10)

pub bounds-out-1 : goal.bounds-out-1
bounds-out-1 t c =
    let a = c.args in
    let room : 1 < length a.out.now = omega (arith, length_2 a.n c.if-n-lt10.false c.if-n-lt100.true) in
    within_byte _ _ _ _ (first_of_two a.n a.out.now room) room

pub returns-then-n-lt100 : goal.returns-then-n-lt100
returns-then-n-lt100 t c =
    let a = c.args in
    let room : 1 < length a.out.now = omega (arith, length_2 a.n c.if-n-lt10.false c.if-n-lt100.true) in
    rw (numeral_2 a.n c.if-n-lt10.false c.if-n-lt100.true) (next_byte _ _ _ _ (first_of_two a.n a.out.now room) room (48 + a.n % 10))

pub bounds-out-at : goal.bounds-out-at
bounds-out-at t c =
    let room : length (numeral (c.args.n / 10)) < length c.args.out.now = omega (arith, length_tens c.args.n c.if-n-lt10.false) in
    within_byte (numeral (c.args.n / 10)) _ _ _ c.put_number-at.ensures room

pub returns : goal.returns
returns t c =
    let n = c.args.n in
    let room : length (numeral (c.args.n / 10)) < length c.args.out.now = omega (arith, length_tens n c.if-n-lt10.false) in
    rw (numeral_tens n c.if-n-lt10.false) (next_byte (numeral (n / 10)) _ _ _ c.put_number-at.ensures room (48 + n % 10))
