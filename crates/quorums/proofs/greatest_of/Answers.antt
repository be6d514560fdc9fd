-- The set is one of nodes, which is all that the rounds ask.
use Rattle.meanings.specs.Table.{nodes}
use Rattle.faults.proofs.Opening.{inside_lt}
use Rattle.quorums.proofs.greatest_of.Goals as goal

pub survivors-requires : goal.survivors-requires
survivors-requires c = rw c.new.ensures (inside_lt c.args.set (nodes c.args.t.now) c.requires)
