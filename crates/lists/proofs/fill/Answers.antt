-- The first walk is made into a list of the function's own, so that a refusal leaves the lent one as it was.
use mathlib.Core.Path.{refl, ap}
use mathlib.Core.List.{List, ◌++◌}
use Prim.Native.Nat.{ℕ}
use lib.ListN.{drop}
use Rattle.lists.proofs.Promise.{whole_tree, copied, written}
use Rattle.lists.proofs.fill.Goals as goal

pub returns-then-count-gt1024 : goal.returns-then-count-gt1024
returns-then-count-gt1024 c =
    let whole = whole_tree c.args.plan.now c.args.s.sought c.root-root.result c.root-root.ensures.1 c.root-root.ensures.2 in
    let first = rw whole at c.in_ok-walked.ensures in
    let second = rw whole at c.walk-then-count-gt1024.ensures in
    written _ _ _ _ first.says c.if-lent-count.false _ _ second

pub returns : goal.returns
returns c =
    let whole = whole_tree c.args.plan.now c.args.s.sought c.root-root.result c.root-root.ensures.1 c.root-root.ensures.2 in
    let first = rw whole at c.in_ok-walked.ensures in
    let x = c.in_ok-walked.walked in
    copied _ _ _ x first.says c.if-lent-count.false _ c.walk.new.out _ c.if-count-gt1024.false (first.wrote x refl)
    (ap (λ (l : List ℕ). l ++ drop x.count c.args.lent.now) c.copy_from_slice.ensures.after)
