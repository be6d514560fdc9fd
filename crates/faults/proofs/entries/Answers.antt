-- The machine's count of a mask is the size of the set, and the run of deeper records has all direct inner sets, levels being in
-- step.
use mathlib.Core.Path.{ap₂, ◌∙◌}
use Prim.Native.Nat.{ℕ, ◌+◌, ◌^◌, ◌<◌}
use native.Mathlib.Omega.{arith}
use lib.Count.{ones}
use Rattle.meanings.specs.Table.{records, members}
use Rattle.faults.proofs.Laws.{ones_le, entries_run}
use Rattle.faults.proofs.entries.Goals as goal

pub overflow_cast-result : goal.overflow_cast-result
overflow_cast-result c = omega (arith, ones_le c.members.result c.members.ensures.1)

pub overflow_add-result : goal.overflow_add-result
unfolding records
overflow_add-result c = omega (arith, ones_le c.members.result c.members.ensures.1)

pub returns : goal.returns
unfolding records
returns c =
    let t = c.args.t.now in
    let r = c.args.r in
    let m = c.members.ensures in
    let l : r < records t = omega (arith, c.requires.0) in
    let h : members t r < 2 ^ 64 = omega (arith, m.0, m.1) in
    ap₂ (λ (a b : ℕ). ones a + b) m.0 c.inner_sets.ensures.0 ∙ entries_run t r c.requires.1 l h
