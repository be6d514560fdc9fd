-- The list's part follows from what it promises.
use Rattle.report.proofs.Parts.{minimal_part_lem}
use Rattle.report.proofs.minimal.Goals as goal

pub returns : goal.returns
returns c = minimal_part_lem _ _ _ c.minimal_quorums.result c.reply.result c.requires c.reply.ensures c.minimal_quorums.ensures
