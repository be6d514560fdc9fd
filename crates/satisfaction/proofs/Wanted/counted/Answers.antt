-- One fewer is wanted.
use Rattle.satisfaction.proofs.Walk.{counts_one}
use Rattle.satisfaction.proofs.Wanted.counted.Goals as goal

pub returns : goal.returns
returns c = λ n3 n2 n1. counts_one c.args.self.outer n3 n2 n1 c.requires
