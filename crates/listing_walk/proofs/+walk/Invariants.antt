use Rattle.sets.specs.Sets.{size}
use Rattle.listing_walk.proofs.+walk.Given as goal

abbrev pub decreases-walk : goal.decreases-walk
decreases-walk l = size 64 l.a.r
