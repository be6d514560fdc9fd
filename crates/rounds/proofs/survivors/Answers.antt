-- The outer loop's invariant is that what is left of those present is the answer, and the rounds so far with those still to come the
-- number; the inner walk gathers, node by node, those who stay. A round that is not the last leaves fewer, so the rounds end.
use Prim.Native.Nat.{ℕ}
use native.Mathlib.Omega.{arith}
use mathlib.Core.Path.{refl, sym, ap₂, ◌∙◌, subst}
use mathlib.Core.Logic.{⊎_elim, inl, inr}
use Rattle.sets.specs.Sets.{◌∪◌, set_of}
use Rattle.rounds.proofs.Laws.{one_stays, one_goes, gathered, Standing, none_left, start, last, fewer, again}
use Rattle.rounds.proofs.survivors.Goals.{then-contains+then-satisfied, else-contains, else-contains-via-then-contains+else-satisfied, else-contains-via-else-contains}
use Rattle.rounds.proofs.survivors.Goals as goal

pub returns-then-present-eq0 : goal.returns-then-present-eq0
returns-then-present-eq0 c =
    none_left c.args.heads.now c.args.d c.args.u (sym c.without-present.ensures ∙ c.if-present-eq0.true) c.requires

pub rounds-init : goal.rounds-init
rounds-init c =
    let e = c.without-present.ensures in
    subst (λ (x : ℕ). Standing c.args.heads.now c.args.d c.args.u x 0) (sym e)
    (start c.args.heads.now c.args.d c.args.u (λ z. c.if-present-eq0.false (e ∙ z)) c.requires)

pub loop-v-init : goal.loop-v-init
unfolding set_of
loop-v-init c = (omega arith, refl)

pub loop-v-preserved : goal.loop-v-preserved
loop-v-preserved c =
    let t = c.args.heads.now in
    let v = c.loop-v.v in
    let present = c.rounds.present in
    let with = present ∪ c.args.d in
    let k = c.loop-v.invariant.1 in (
      omega (arith, c.loop-v.invariant.0, c.if-v-nodes.false),
      elim c.if-contains.branch [
        | then-contains+then-satisfied w ↦
            w.keep-is ∙ ap₂ ◌∪◌ k w.one-keep.ensures
            ∙ one_stays t with present v (sym c.contains.ensures ∙ w.if-contains.true) (sym w.satisfied.ensures ∙ w.if-satisfied.true)
        | else-contains w ↦
            w.keep-is ∙ k ∙ one_goes t with present v (elim w.else-contains.branch [
              | else-contains-via-then-contains+else-satisfied x ↦ inr (sym x.satisfied.ensures ∙ x.if-satisfied.false)
              | else-contains-via-else-contains x ↦ inl (sym c.contains.ensures ∙ x.if-contains.false)
            ])
      ],
    )

pub rounds-smaller : goal.rounds-smaller
rounds-smaller c =
    let n = rw c.table.ensures.reads at c.nodes-nodes.ensures.reads in
    let k = gathered c.args.heads.now c.nodes-nodes.result c.args.d c.rounds.present c.loop-v.keep c.loop-v.v n.0 c.if-v-nodes.true c.loop-v.invariant.1 in
    fewer c.args.heads.now c.args.d c.args.u c.rounds.present c.rounds.count c.loop-v.keep c.rounds.invariant k c.if-keep-present.false

pub rounds-preserved : goal.rounds-preserved
rounds-preserved c =
    let n = rw c.table.ensures.reads at c.nodes-nodes.ensures.reads in
    let k = gathered c.args.heads.now c.nodes-nodes.result c.args.d c.rounds.present c.loop-v.keep c.loop-v.v n.0 c.if-v-nodes.true c.loop-v.invariant.1 in
    again c.args.heads.now c.args.d c.args.u c.rounds.present c.rounds.count c.loop-v.keep c.rounds.invariant k c.if-keep-present.false c.if-keep-eq0.false

pub returns : goal.returns
returns c =
    let n = rw c.table.ensures.reads at c.nodes-nodes.ensures.reads in
    let k = gathered c.args.heads.now c.nodes-nodes.result c.args.d c.rounds.present c.loop-v.keep c.loop-v.v n.0 c.if-v-nodes.true c.loop-v.invariant.1 in
    last c.args.heads.now c.args.d c.args.u c.rounds.present c.rounds.count c.loop-v.keep c.rounds.invariant k
    (⊎_elim (λ w. inl w) (λ w. inr w.1) c.then-keep-present.either)
