-- 2 ^ n - 1; at 64 the shift would be too wide, and the word is all ones.
use Prim.Native.Nat.{ℕ, ◌-◌, ◌<◌, ◌^◌}
use mathlib.Core.Path.{sym, ap}
use native.Mathlib.Omega.{arith}
use lib.Pow.{pow_pos}
use Rattle.sets.specs.Sets.{everyone}
use Rattle.sets.proofs.Words.{shl_one}
use Rattle.sets.proofs.all.Goals as goal

pub returns-then-n-eq64 : goal.returns-then-n-eq64
unfolding everyone
returns-then-n-eq64 c = ap everyone (sym c.if-n-eq64.true)

pub overflow_sub-result : goal.overflow_sub-result
overflow_sub-result c =
    let n = c.args.n in
    let l : n < 64 = omega arith in
    let e = shl_one n l in
    let p : 0 < 2 ^ n = pow_pos n in
    omega arith

pub returns : goal.returns
unfolding everyone
returns c =
    let n = c.args.n in
    let l : n < 64 = omega arith in
    ap (λ (x : ℕ). x - 1) (shl_one n l)
