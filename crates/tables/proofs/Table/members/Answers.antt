-- Both words of a record lie in the table.
use Rattle.tables.proofs.Sound.{record_in}
use Rattle.tables.proofs.Table.members.Goals as goal

pub members-requires : goal.members-requires
members-requires c = record_in c.self.inside.words.now c.args.r (rw c.self.view_is c.requires)
