use Rattle.sets.specs.Sets.{size}
use Rattle.verdict.proofs.+search.Given as goal

abbrev pub decreases-search : goal.decreases-search
decreases-search l = size 64 l.a.r
