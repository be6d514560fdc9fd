-- The machine's count of trailing zeros is the lowest node over 64 places.
use mathlib.Core.Path.{refl}
use lib.Count.{trailing_le}
use native.Mathlib.Omega.{arith}
use Rattle.sets.proofs.first.Goals as goal

pub overflow_cast-result : goal.overflow_cast-result
overflow_cast-result c = let l = trailing_le 64 c.args.m in omega arith

pub returns : goal.returns
returns c = (refl, trailing_le 64 c.args.m)
