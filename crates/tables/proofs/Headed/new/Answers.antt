-- The nodes found are those that the records passed open: a record at level 0 is the head of the node that those before it number.
use mathlib.Core.Path.{◌≡◌, refl, sym, ap, ◌∙◌}
use Prim.Native.Nat.{suc, ◌<◌}
use native.Mathlib.Numerals.{add-one}
use native.Mathlib.Omega.{arith}
use lib.ListN.{length, length-set}
use Rattle.meanings.specs.Table.{records, nodes, level}
use Rattle.tables.specs.Heads.{heads_before}
use Rattle.tables.proofs.Heads.{before_first, before-all, head_node, head_step, inner_step, one_head}
use Rattle.tables.proofs.Sound.{sound_table}
use Rattle.tables.proofs.Headed.new.Goals.{then-level-eq0, else-level-eq0}
use Rattle.tables.proofs.Headed.new.Goals as goal

pub loop-r-init : goal.loop-r-init
loop-r-init c = (sym (before_first c.args.table.now), refl, λ v l. absurd (omega arith))

-- A head that is met has room: it is a node of the table, which has 64 at most.
pub bounds-at-v : goal.bounds-at-v
bounds-at-v c =
    let t = c.args.table.now in
    let met = head_node t c.loop-r.r (omega (arith, c.loop-r-test.true, c.records-r-end.ensures.reads)) (sym c.level.ensures.reads ∙ c.if-level-eq0.true) in
    let few = (sound_table t c.level.ensures.checked).nodes-le in
    omega (arith, met, few, c.loop-r.invariant.0)

pub overflow_cast-at : goal.overflow_cast-at
overflow_cast-at c =
    let few = (sound_table c.args.table.now c.level.ensures.checked).records-le in
    omega (arith, few, c.loop-r-test.true, c.records-r-end.ensures.reads)

pub overflow_add-v : goal.overflow_add-v
overflow_add-v c = let h = bounds-at-v c in omega arith

pub loop-r-preserved : goal.loop-r-preserved
loop-r-preserved c =
    let t = c.args.table.now in
    let r = c.loop-r.r in
    let i = c.loop-r.invariant in
    let e = c.level.ensures.reads in
    elim c.if-level-eq0.branch [
      | then-level-eq0 w ↦
          let opens : level t r ≡ 0 = sym e ∙ w.if-level-eq0.true in
          let l : r < records t = omega (arith, c.loop-r-test.true, c.records-r-end.ensures.reads) in
          let met = head_node t r l opens in
          let few = (sound_table t c.level.ensures.checked).nodes-le in
          let room : c.loop-r.v < length c.loop-r.at = omega (arith, met, few, i.0, i.1) in (
            w.v-is ∙ add-one c.loop-r.v ∙ ap suc i.0 ∙ sym (head_step t r opens),
            ap length w.at-is ∙ length-set c.loop-r.at c.loop-r.v r ∙ i.1,
            rw (w.at-is, w.v-is) (one_head t c.loop-r.at c.loop-r.v r room l opens i.0 i.2),
          )
      | else-level-eq0 w ↦
          (w.v-is ∙ i.0 ∙ sym (inner_step t r (λ q. w.if-level-eq0.false (e ∙ q))), ap length w.at-is ∙ i.1, rw (w.at-is, w.v-is) i.2)
    ]

pub invariant_of-result : goal.invariant_of-result
invariant_of-result c =
    let t = c.args.table.now in
    let i = c.loop-r.invariant in
    let e : c.loop-r.r ≡ records t = omega (arith, c.loop-r.auto.r-end, c.loop-r-test.false, c.records-r-end.ensures.reads) in
    let v : c.loop-r.v ≡ nodes t = i.0 ∙ ap (heads_before t) e ∙ before-all t in
    (c.records-r-end.ensures.checked, rw v at i.2)
