-- Both words of a record lie in the table.
use Rattle.tables.proofs.Sound.{record_in}
use Rattle.tables.proofs.Table.threshold.Goals as goal

pub threshold-requires : goal.threshold-requires
threshold-requires c = record_in c.self.inside.words.now c.args.r (rw c.self.view_is c.requires)
