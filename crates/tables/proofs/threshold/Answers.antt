-- The threshold is what 256 leaves of the control word.
use Rattle.meanings.specs.Table.{control, threshold}
use borrow.Author.Rules.{rules}
use Rattle.tables.proofs.threshold.Goals as goal

pub returns : goal.returns
unfolding threshold control
returns c = search rules
