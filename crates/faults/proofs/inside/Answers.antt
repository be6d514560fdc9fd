-- A set lies within the first n nodes where a shift by n leaves nothing of it; and any word lies within the first 64.
use mathlib.Core.Path.{sym}
use Rattle.faults.proofs.Laws.{within_shift, within_all}
use Rattle.faults.proofs.inside.Goals as goal

pub returns-then-nodes-eq64 : goal.returns-then-nodes-eq64
returns-then-nodes-eq64 c = rw c.if-nodes-eq64.true (sym (within_all c.args.set c.ranges.set.fits))

pub returns : goal.returns
returns c = sym (within_shift c.args.set c.args.nodes)
