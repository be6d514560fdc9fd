-- The nodes of c are taken out one after another, the lowest first; those that are out cannot be spared.
use mathlib.Core.Path.{sym, ◌∙◌}
use Rattle.meanings.specs.Table.{nodes, satisfied}
use Rattle.listing_visits.proofs.Laws.{left-all, left-none, next_in, next_bit, next_spared, next_fewer, left_next}
use Rattle.listing_visits.proofs.minimal.Goals as goal

pub loop-left-init : goal.loop-left-init
loop-left-init c =
    left-all (nodes c.args.plan.now) (satisfied c.args.plan.now) c.args.sought c.args.c c.requires.below

pub can_spare-requires : goal.can_spare-requires
can_spare-requires c = (
  c.requires,
  c.loop-left.invariant,
  next_in (nodes c.args.plan.now) (satisfied c.args.plan.now) c.args.sought c.args.c c.loop-left.left c.loop-left.invariant
      c.first-v.result c.ranges.c.fits c.loop-left-test.true c.first-v.ensures.0,
)

pub returns-then-can_spare : goal.returns-then-can_spare
returns-then-can_spare c =
    sym (next_spared (nodes c.args.plan.now) (satisfied c.args.plan.now) c.args.sought c.args.c c.loop-left.left c.loop-left.invariant
    c.first-v.result c.ranges.c.fits c.loop-left-test.true c.first-v.ensures.0 c.requires.below (sym c.can_spare.ensures ∙ c.if-can_spare.true))

pub one-requires : goal.one-requires
one-requires c =
    next_bit (nodes c.args.plan.now) (satisfied c.args.plan.now) c.args.sought c.args.c c.loop-left.left c.loop-left.invariant
    c.first-v.result c.ranges.c.fits c.loop-left-test.true c.first-v.ensures.0

pub loop-left-smaller : goal.loop-left-smaller
loop-left-smaller c =
    rw (c.without-left.ensures, c.one.ensures)
    (next_fewer (nodes c.args.plan.now) (satisfied c.args.plan.now) c.args.sought c.args.c c.loop-left.left c.loop-left.invariant
    c.first-v.result c.ranges.c.fits c.loop-left-test.true c.first-v.ensures.0)

pub loop-left-preserved : goal.loop-left-preserved
loop-left-preserved c =
    rw (c.without-left.ensures, c.one.ensures)
    (left_next (nodes c.args.plan.now) (satisfied c.args.plan.now) c.args.sought c.args.c c.loop-left.left c.loop-left.invariant
    c.first-v.result c.ranges.c.fits c.loop-left-test.true c.first-v.ensures.0 (sym c.can_spare.ensures ∙ c.if-can_spare.false))

pub returns : goal.returns
returns c =
    sym (left-none (nodes c.args.plan.now) (satisfied c.args.plan.now) c.args.sought c.args.c c.loop-left.left c.loop-left.invariant
    c.requires.below c.requires.is_one c.loop-left-test.false)
