-- Both words of a record lie in the table.
use Rattle.tables.proofs.Sound.{record_in}
use Rattle.tables.proofs.Table.level.Goals as goal

pub level-requires : goal.level-requires
level-requires c = record_in c.self.inside.words.now c.args.r (rw c.self.view_is c.requires)
