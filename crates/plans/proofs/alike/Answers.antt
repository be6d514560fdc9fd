-- The loop keeps the node itself and those passed whose quorum sets are written the same, which makes them alike.
use mathlib.Core.Path.{sym, ap, ◌∙◌}
use native.Mathlib.Omega.{arith}
use Rattle.meanings.specs.Table.{nodes as nodes_of}
use Rattle.tables.proofs.Sound.{sound_table, node_lt}
use Rattle.plans.proofs.Written.{bounds}
use Rattle.plans.proofs.SameSets.{same_sets}
use Rattle.plans.proofs.Planning.{itself_alone, one_alike}
use Rattle.plans.proofs.alike.Goals.{then-same_set, else-same_set}
use Rattle.plans.proofs.alike.Goals as goal

pub bounds-names-v : goal.bounds-names-v
bounds-names-v c = node_lt c.args.heads.now c.set_of-set.ensures.checked c.args.v c.requires

pub offset_bounds-names-v : goal.offset_bounds-names-v
offset_bounds-names-v c = let l = node_lt c.args.heads.now c.set_of-set.ensures.checked c.args.v c.requires in omega (arith, l)

pub one-like-requires : goal.one-like-requires
one-like-requires c = let m = (sound_table c.args.heads.now c.set_of-set.ensures.checked).nodes-le in omega arith

pub loop-i-init : goal.loop-i-init
loop-i-init c = rw c.one-like.ensures (itself_alone c.args.heads.now c.args.v)

pub loop-i-preserved : goal.loop-i-preserved
loop-i-preserved c =
    let t = c.args.heads.now in
    let v = c.args.v in
    let i = c.loop-i.i in
    elim c.if-same_set.branch [
      | then-same_set w ↦
          let n = ap nodes_of c.table.ensures.reads in
          let same = sym c.set_of.ensures.reads ∙ c.same_set.ensures w.if-same_set.true ∙ c.set_of-set.ensures.reads in
          rw (w.like-is, w.one-like-then-same_set.ensures)
          (one_alike t v c.loop-i.like i c.loop-i.invariant (same_sets t i v (bounds t i (omega (arith, c.nodes-i-end.ensures.reads.0))) (bounds t v c.requires) same c.set_of.ensures.checked))
      | else-same_set w ↦ rw w.like-is c.loop-i.invariant
    ]
