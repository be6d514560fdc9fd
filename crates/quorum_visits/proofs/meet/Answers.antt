-- The tests in their order: nothing in reach, a set that has not grown, nodes that are still due.
use mathlib.Core.Logic.{⊎_elim, inl, inr}
use Rattle.quorum_visits.proofs.Laws.{not-dry, is_quorum, still_waits}
use Rattle.quorum_visits.proofs.meet.Goals as goal

pub returns-then-a-eq0-2 : goal.returns-then-a-eq0-2
returns-then-a-eq0-2 c =
    still_waits c.args.plan.now c.args.d c.args.a c.requires c.if-a-eq0.false c.unmet-left.result c.unmet-left.ensures.0 c.unmet-left.ensures.1
    (⊎_elim (λ w. inl w) (λ w. inr w.1) c.then-a-eq0-2.either)

pub returns : goal.returns
returns c = (
  not-dry c.args.plan.now c.args.d c.args.a c.requires c.if-a-eq0.false,
  is_quorum c.args.plan.now c.args.d c.args.a c.requires c.if-a-eq0.false c.unmet-left.result c.unmet-left.ensures.0 c.unmet-left.ensures.1
      c.if-a-eq0-2.false c.if-left-ne0.false,
)
