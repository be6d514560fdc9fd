-- A sound table has 64 nodes at most, so that the set of them all is a word.
use native.Mathlib.Omega.{arith}
use Rattle.tables.proofs.Sound.{sound_table}
use Rattle.tables.proofs.Table.new.Goals as goal

pub all-all-requires : goal.all-all-requires
all-all-requires c = let few = (sound_table c.args.words.now c.requires.0).nodes-le in omega (arith, few, c.requires.1)
