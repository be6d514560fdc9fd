-- Where it says no the walk over the inner sets ends at once: no record is left, or the next one is not below this.
use native.Mathlib.Omega.{arith}
use Prim.Native.Nat.{◌+◌, ◌≤◌}
use borrow.Author.Tests.{ltb-false}
use Rattle.meanings.specs.Table.{level}
use Rattle.tables.proofs.Runs.{from_end, from_stop}
use Rattle.satisfaction.specs.Judged.{holds}
use Rattle.satisfaction.proofs.deeper.Goals as goal

pub returns-then-records-r : goal.returns-then-records-r
returns-then-records-r c =
    let t = c.args.t.now in
    let r = c.args.r in
    λ u e.
    from_end (holds t u) t (level t r) (r + 1) (omega (arith, c.if-records-r.true, c.records.ensures.reads))

pub returns : goal.returns
returns c =
    let t = c.args.t.now in
    let r = c.args.r in
    let a = c.level.ensures.reads in
    let b = c.level-2.ensures.reads in
    λ u e.
    let l : c.level-2.result ≤ c.level.result = ltb-false c.level.result c.level-2.result e in
    from_stop (holds t u) t (level t r) (r + 1) (omega arith)
