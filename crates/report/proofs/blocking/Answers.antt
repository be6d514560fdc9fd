-- The list's part follows from what it promises.
use Rattle.report.proofs.Parts.{blocking_part_lem}
use Rattle.report.proofs.blocking.Goals as goal

pub returns : goal.returns
returns c = blocking_part_lem _ _ _ c.blocking_sets.result c.reply.result c.requires c.reply.ensures c.blocking_sets.ensures
