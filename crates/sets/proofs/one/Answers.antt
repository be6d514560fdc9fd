-- Below 64 the shift loses nothing.
use Rattle.sets.proofs.Words.{shl_one}
use Rattle.sets.proofs.one.Goals as goal

pub returns : goal.returns
returns c = shl_one c.args.i c.requires
