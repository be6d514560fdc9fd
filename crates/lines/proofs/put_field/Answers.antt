-- The tab goes right behind the number.
use native.Mathlib.Omega.{arith}
use Prim.Native.Nat.{◌<◌}
use lib.ListN.{length}
use Rattle.decimal.specs.Decimal.{numeral}
use Rattle.decimal.proofs.Place.{within_byte, next_byte}
use Rattle.lines.specs.Lines.{field_text}
use Rattle.lines.proofs.Texts.{length_field}
use Rattle.lines.proofs.put_field.Goals as goal

pub bounds-out-k : goal.bounds-out-k
bounds-out-k c =
    let room : length (numeral c.args.n) < length c.args.out.now = omega (arith, length_field c.args.n) in
    within_byte _ _ _ _ c.put_number-k.ensures room

pub returns : goal.returns
unfolding field_text
returns c =
    let room : length (numeral c.args.n) < length c.args.out.now = omega (arith, length_field c.args.n) in
    next_byte _ _ _ _ c.put_number-k.ensures room 9
