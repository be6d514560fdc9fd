-- The definition of the difference is this very word.
use Rattle.sets.specs.Sets.{◌∖◌}
use mathlib.Core.Path.{refl}
use Rattle.sets.proofs.without.Goals as goal

pub returns : goal.returns
unfolding ◌∖◌
returns c = refl
