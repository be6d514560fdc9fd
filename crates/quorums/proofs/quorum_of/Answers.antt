-- The set is one of nodes, which is all that judging it asks.
use Rattle.meanings.specs.Table.{nodes}
use Rattle.faults.proofs.Opening.{inside_lt}
use Rattle.quorums.proofs.quorum_of.Goals as goal

pub quorum-requires : goal.quorum-requires
quorum-requires c = rw c.new.ensures (inside_lt c.args.set (nodes c.args.t.now) c.requires)
