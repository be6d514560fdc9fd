-- Without the node, what lasts of the greatest quorum is in reach.
use Rattle.quorum_visits.proofs.Laws.{strikes, left_below}
use Rattle.quorum_visits.proofs.leave.Goals as goal

pub greatest_without-requires : goal.greatest_without-requires
greatest_without-requires c =
    strikes c.args.plan.now c.args.d c.args.a c.requires.0 c.args.v c.args.due c.requires.1

pub returns : goal.returns
returns c =
    left_below c.args.plan.now c.args.d c.args.a c.requires.0 c.args.v c.args.due c.requires.1
    c.others.result c.greatest_without.result c.others.ensures.0 c.greatest_without.ensures
