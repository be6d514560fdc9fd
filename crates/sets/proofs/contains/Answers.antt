-- Bit i of m, as the definition reads it.
use Rattle.sets.specs.Sets.{has}
use mathlib.Core.Path.{refl}
use Rattle.sets.proofs.contains.Goals as goal

pub returns : goal.returns
unfolding has
returns c = refl
