-- The level is what 256 goes into the control word, and a word is below 2 ^ 64.
use mathlib.Core.Path.{refl}
use Prim.Native.Nat.{◌*◌}
use native.Mathlib.Omega.{arith}
use Rattle.meanings.specs.Table.{control, level}
use Rattle.tables.proofs.level.Goals as goal

pub returns : goal.returns
unfolding level control
returns c = (refl, omega (arith, c.type_inv.t (2 * c.args.r)))
