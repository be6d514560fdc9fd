-- The test is that of the definition.
use borrow.Author.Tests.{lt-ltb, le-ltb}
use native.Mathlib.Omega.{arith}
use Prim.Native.Nat.{◌+◌, ◌≤◌, ◌<◌}
use Rattle.fields.specs.Fields.{end_at}
use Rattle.fields.proofs.end_at.Goals as goal

pub returns-then-i-count : goal.returns-then-i-count
unfolding end_at
returns-then-i-count c =
    let a = c.args in
    let h : a.i + 1 < a.count = omega arith in
    rw (lt-ltb (a.i + 1) a.count h)

pub returns-else-i-count : goal.returns-else-i-count
unfolding end_at
returns-else-i-count c =
    let a = c.args in
    let h : a.count ≤ a.i + 1 = omega arith in
    rw (le-ltb (a.i + 1) a.count h)
