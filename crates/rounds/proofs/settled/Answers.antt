-- Each node of c that is passed is satisfied; one that is not ends the walk.
use mathlib.Core.Path.{sym, ◌∙◌}
use Prim.Native.Nat.{ℕ}
use native.Mathlib.Omega.{arith}
use borrow.Author.Count.{below_more}
use Rattle.sets.specs.Sets.{each}
use Rattle.sets.proofs.Bools.{clash, fails}
use Rattle.sets.proofs.Members.{has_below, each_at, at_each}
use Rattle.meanings.specs.Table.{nodes, satisfied}
use Rattle.rounds.proofs.settled.Goals.{else-contains-via-then-contains+else-not-satisfied, else-contains-via-else-contains}
use Rattle.rounds.proofs.settled.Goals as goal

pub returns-then-not-satisfied : goal.returns-then-not-satisfied
returns-then-not-satisfied c =
    let n = nodes c.args.heads.now in
    let f : ℕ → _ = satisfied c.args.heads.now c.args.with in
    let v = c.loop-v.v in
    sym (fails (each n c.args.c f) (λ e.
    clash (f v) (each_at n c.args.c f e v (sym c.contains.ensures ∙ c.if-contains.true)) (sym c.satisfied.ensures ∙ c.if-not-satisfied.true)))

pub loop-v-preserved : goal.loop-v-preserved
loop-v-preserved c =
    below_more _ _ c.loop-v.invariant (λ p.
    elim c.else-contains.branch [
      | else-contains-via-then-contains+else-not-satisfied w ↦ sym w.satisfied.ensures ∙ w.if-not-satisfied.false
      | else-contains-via-else-contains w ↦ clash c.contains.result (c.contains.ensures ∙ p) w.if-contains.false
    ])

pub returns : goal.returns
returns c =
    let n = nodes c.args.heads.now in
    let all = rw c.table.ensures.reads at c.nodes-v-end.ensures.reads in
    sym (at_each n c.args.c (satisfied c.args.heads.now c.args.with) c.requires (λ i p.
    let l = has_below n c.args.c i c.requires p in
    c.loop-v.invariant i (omega (arith, all.0, c.loop-v-test.false)) p))
