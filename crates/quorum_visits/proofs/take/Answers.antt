-- With the node chosen, the greatest quorum in reach is the same.
use Rattle.quorum_visits.proofs.Laws.{taken_below}
use Rattle.quorum_visits.proofs.take.Goals as goal

pub returns : goal.returns
returns c =
    taken_below c.args.plan.now c.args.d c.args.a c.requires.0 c.args.v c.args.due c.requires.1
    c.one-one.result c.others-r.result c.one-one.ensures c.others-r.ensures.0
