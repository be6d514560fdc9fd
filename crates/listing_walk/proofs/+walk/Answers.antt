-- The visit, then the walk of the first part, then, where that is answered, the walk of the second, which goes on where it stopped.
use native.Mathlib.Omega.{arith}
use Rattle.std.proofs.lemmas.Result.{err_from_is_err_and}
use Prim.Native.Nat.{ℕ}
use Rattle.sets.specs.Sets.{only, ◌∪◌}
use Rattle.meanings.specs.Table.{nodes, satisfied}
use Rattle.meanings.specs.Trees.{Tree}
use Rattle.listing_visits.specs.Visits.{tree_at, open_below}
use Rattle.listing_walk.proofs.Laws.{walk_spent, walk_leaf, walk_found, walk_unsplit, walk_first, walk_second, still_fewer, parted, parted_both, fewer_open}
use Rattle.listing_walk.proofs.+walk.Goals as goal

pub returns-then-s-spent : goal.returns-then-s-spent
returns-then-s-spent t c = walk_spent _ c.args.s.allowance c.args.spent c.args.found c.args.out.now c.if-s-spent.true

pub walk-requires : goal.walk-requires
walk-requires t c =
    let fewer = fewer_open c.args.plan.now c.args.s.sought c.args.a c.in-Split.v c.in-Split.due c.in-Split.ensures
    c.args.a.c c.leave-without.result c.leave-without.ensures in
    (omega (arith, fewer), record { stands = c.leave-without.ensures.stands; fewer_found = omega (arith, c.requires.fewer_found) })

pub returns-in_err-count-in-Split : goal.returns-in_err-count-in-Split
returns-in_err-count-in-Split t c =
    let tree : ℕ → ℕ → Tree ℕ = tree_at (nodes c.args.plan.now) (satisfied c.args.plan.now) c.args.s.sought in
    let p = err_from_is_err_and c.from_residual.result c.from_residual.ensures.1 in
    rw (p.1, p.2)
    (walk_first (tree c.args.a.c c.args.a.r) c.args.s.allowance c.args.spent c.args.found c.args.out.now
    (tree c.leave-without.result.c c.leave-without.result.r) (tree (c.args.a.c ∪ only c.in-Split.v) (open_below c.args.s.sought c.args.a c.in-Split.v))
    (parted c.args.plan.now c.args.s.sought c.args.a c.in-Split.v c.in-Split.due c.in-Split.ensures c.leave-without.result c.leave-without.ensures)
    c.walk.new.out c.in_err-count-in-Split.field-0.0 c.in_err-count-in-Split.ensures)

pub walk-requires-in-Split : goal.walk-requires-in-Split
walk-requires-in-Split t c =
    let tree : ℕ → ℕ → Tree ℕ = tree_at (nodes c.args.plan.now) (satisfied c.args.plan.now) c.args.s.sought in
    let fewer = fewer_open c.args.plan.now c.args.s.sought c.args.a c.in-Split.v c.in-Split.due c.in-Split.ensures
    (c.args.a.c ∪ only c.in-Split.v) c.take-with.result c.take-with.ensures in (
      omega (arith, fewer),
      record {
        stands = c.take-with.ensures.stands;
        fewer_found = still_fewer (tree c.args.a.c c.args.a.r) c.args.s.allowance c.args.spent c.args.found c.args.out.now
            (tree c.leave-without.result.c c.leave-without.result.r) (tree c.take-with.result.c c.take-with.result.r)
            (parted_both c.args.plan.now c.args.s.sought c.args.a c.in-Split.v c.in-Split.due c.in-Split.ensures
            c.leave-without.result c.take-with.result c.leave-without.ensures c.take-with.ensures)
            c.walk.new.out c.in_ok-count-in-Split.field-0 c.in_ok-count-in-Split.ensures c.requires.fewer_found;
      },
    )

pub returns-in-Leaf : goal.returns-in-Leaf
returns-in-Leaf t c = walk_leaf _ c.args.s.allowance c.args.spent c.args.found c.args.out.now c.if-s-spent.false c.in-Leaf.ensures

pub returns-in-Listed : goal.returns-in-Listed
returns-in-Listed t c =
    walk_found _ c.args.s.allowance c.args.spent c.args.found c.args.out.now c.if-s-spent.false c.args.a.c c.put.new.out c.in-Listed.ensures c.put.ensures

pub returns-in-Stuck : goal.returns-in-Stuck
returns-in-Stuck t c = walk_unsplit _ c.args.s.allowance c.args.spent c.args.found c.args.out.now c.if-s-spent.false c.in-Stuck.ensures

pub returns-in_ok-count-in-Split : goal.returns-in_ok-count-in-Split
returns-in_ok-count-in-Split t c =
    let tree : ℕ → ℕ → Tree ℕ = tree_at (nodes c.args.plan.now) (satisfied c.args.plan.now) c.args.s.sought in
    walk_second (tree c.args.a.c c.args.a.r) c.args.s.allowance c.args.spent c.args.found c.args.out.now
    (tree c.leave-without.result.c c.leave-without.result.r) (tree c.take-with.result.c c.take-with.result.r)
    (parted_both c.args.plan.now c.args.s.sought c.args.a c.in-Split.v c.in-Split.due c.in-Split.ensures
    c.leave-without.result c.take-with.result c.leave-without.ensures c.take-with.ensures)
    c.walk.new.out c.in_ok-count-in-Split.field-0 c.in_ok-count-in-Split.ensures
    c.walk-in-Split.new.out c.walk-in-Split.result c.walk-in-Split.ensures
