-- The machine's count is the size over 64 places.
use native.Mathlib.Omega.{arith}
use Rattle.sets.proofs.Size.{ones_size, size-le}
use Rattle.sets.proofs.count.Goals as goal

pub overflow_cast-result : goal.overflow_cast-result
overflow_cast-result c = let e = ones_size 64 c.args.m c.ranges.m.fits in let l = size-le 64 c.args.m in omega arith

pub returns : goal.returns
returns c = let e = ones_size 64 c.args.m c.ranges.m.fits in let l = size-le 64 c.args.m in (e, omega arith)
