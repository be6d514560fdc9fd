-- The loop gathers the nodes passed that name any of `like`.
use Rattle.plans.proofs.Planning.{touched_same, touched_more}
use Rattle.plans.proofs.touched.Goals.{then-names-i-ne0, else-names-i-ne0}
use Rattle.plans.proofs.touched.Goals as goal

pub loop-i-preserved : goal.loop-i-preserved
loop-i-preserved c =
    let N = c.args.names.now in
    let v = c.loop-i.invariant in
    elim c.if-names-i-ne0.branch [
      | then-names-i-ne0 w ↦ rw (w.all-is, w.one-all.ensures) (touched_more N c.args.like c.loop-i.all c.loop-i.i v)
      | else-names-i-ne0 w ↦ rw w.all-is (touched_same N c.args.like c.loop-i.all c.loop-i.i v w.if-names-i-ne0.false)
    ]
