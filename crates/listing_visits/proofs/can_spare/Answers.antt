-- A node that is left is one of c.
use Rattle.meanings.specs.Table.{nodes, satisfied}
use Rattle.listing_visits.proofs.Laws.{left_in}
use Rattle.listing_visits.proofs.can_spare.Goals as goal

pub spare_of_blocking-requires : goal.spare_of_blocking-requires
spare_of_blocking-requires c = (
  rw (← c.in-Blocking.is) c.requires.0,
  left_in (nodes c.args.plan.now) (satisfied c.args.plan.now) c.args.sought c.args.c c.args.left c.requires.1 c.args.v c.requires.2,
)
