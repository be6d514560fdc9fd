-- What the sets that the walk stands in get from the records to come is what the set that is judged gets from all of them.
use native.Mathlib.Omega.{arith}
use mathlib.Core.Path.{sym, ap, ◌∙◌}
use Prim.Native.Nat.{ℕ, suc, ◌+◌, ◌≤◌}
use lib.Dec.{leb}
use Rattle.meanings.specs.Table.{level}
use Rattle.tables.proofs.Runs.{from_end, from_stop}
use Rattle.tables.proofs.Sound.{sound_table}
use Rattle.satisfaction.specs.Judged.{holds, still}
use Rattle.satisfaction.proofs.Walk.{comes_outer, comes-all, left-none}
use Rattle.satisfaction.proofs.inner_enough.Goals as goal

pub overflow_step-j : goal.overflow_step-j
overflow_step-j c =
    let w = (sound_table c.args.t.now c.level-above.ensures.checked).records-le in
    omega (arith, c.requires.0)

pub loop-j-init : goal.loop-j-init
loop-j-init c =
    let t = c.args.t.now in
    let u = c.args.u in
    let k = c.level-above.result in
    let j = c.args.r + 1 in (
      c.requires.1,
      comes_outer c.args.wanted 0 (still t u (suc (suc k)) j) (still t u (suc k) j) (still t u k j)
          ∙ ap (λ (x : ℕ). leb c.args.wanted (still t u x j)) c.level-above.ensures.reads,
    )

pub returns-then-level-above : goal.returns-then-level-above
returns-then-level-above c =
    let t = c.args.t.now in
    let k = c.level-above.result in
    let j = c.loop-j.j in
    let w = c.loop-j.w in
    let i = c.loop-j.invariant in
    let over : level t j ≤ k = omega (arith, c.level.ensures.reads, c.if-level-above.true) in
    sym (left-none t c.args.u k j w.outer w.inner w.inmost i.0 (λ x h. from_stop (holds t c.args.u) t x j (omega arith))) ∙ i.1

pub returns-then-w-eq0 : goal.returns-then-w-eq0
returns-then-w-eq0 c =
    let t = c.args.t.now in
    let u = c.args.u in
    let k = c.level-above.result in
    let j = c.loop-j.j + 1 in
    let o = c.after-w.result in
    sym (comes-all o.inner o.inmost (still t u (suc (suc k)) j) (still t u (suc k) j) (still t u k j))
    ∙ (rw c.if-w-eq0.true at c.after-w.ensures)
    ∙ c.loop-j.invariant.1

pub returns : goal.returns
returns c =
    let t = c.args.t.now in
    let k = c.level-above.result in
    let j = c.loop-j.j in
    let w = c.loop-j.w in
    let i = c.loop-j.invariant in
    sym (left-none t c.args.u k j w.outer w.inner w.inmost i.0 (λ x h. from_end (holds t c.args.u) t x j (omega (arith, c.loop-j-test.false, c.records-j-end.ensures.reads)))) ∙ i.1
