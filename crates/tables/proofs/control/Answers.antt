-- The word at an even place is the control word by definition.
use Rattle.meanings.specs.Table.{control}
use borrow.Author.Rules.{rules}
use Rattle.tables.proofs.control.Goals as goal

pub returns : goal.returns
unfolding control
returns c = search rules
