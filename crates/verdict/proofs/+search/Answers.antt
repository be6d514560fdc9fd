-- A visit that is not a leaf hands the visits on from its first branch to its second. The open nodes fall at each split, so the search ends.
use native.Mathlib.Omega.{arith}
use mathlib.Core.Path.{◌∙◌}
use Rattle.std.proofs.lemmas.Result.{err_from_is_err_and}
use Rattle.verdict.proofs.Allowance.{all_spent, stuck_here}
use Rattle.verdict.proofs.Split.{no_choice, ready, fewer, visiting, stops, goes_on, not_yes}
use Rattle.verdict.proofs.+search.Goals as goal

pub returns-then-spent-q : goal.returns-then-spent-q
returns-then-spent-q t c = all_spent _ _ _ c.if-spent-q.true

pub returns-then-on-eq0 : goal.returns-then-on-eq0
returns-then-on-eq0 t c =
    stuck_here _ _ c.if-spent-q.false _ (no_choice c.requires c.in-Split.ensures c.without-on.ensures c.if-on-eq0.true)

pub leave-without-requires : goal.leave-without-requires
leave-without-requires t c = (
  c.requires.stands,
  ready c.requires c.in-Split.ensures c.without-on.ensures c.if-on-eq0.false c.first-v.ensures.0,
)

pub search-requires : goal.search-requires
search-requires t c =
    let l = fewer c.requires c.in-Split.ensures c.without-on.ensures c.if-on-eq0.false c.first-v.ensures.0 c.leave-without.ensures in (
      omega arith,
      visiting c.requires c.in-Split.ensures c.without-on.ensures c.if-on-eq0.false c.first-v.ensures.0 c.leave-without.ensures,
    )

pub returns-in_err-first-in-Split : goal.returns-in_err-first-in-Split
returns-in_err-first-in-Split t c =
    let p = err_from_is_err_and c.from_residual.result c.from_residual.ensures.1 in
    rw (p.1, p.2)
    (stops c.requires c.in-Split.ensures c.without-on.ensures c.if-on-eq0.false c.first-v.ensures.0 c.leave-without.ensures
    c.args.spent c.in_err-first-in-Split.ensures tt)

pub returns-in_default : goal.returns-in_default
returns-in_default t c =
    stops c.requires c.in-Split.ensures c.without-on.ensures c.if-on-eq0.false c.first-v.ensures.0 c.leave-without.ensures
    c.args.spent c.in_ok-first-in-Split.ensures (not_yes _ c.in_default.not-Yes)

pub take-with-requires : goal.take-with-requires
take-with-requires t c = (
  c.requires.stands,
  ready c.requires c.in-Split.ensures c.without-on.ensures c.if-on-eq0.false c.first-v.ensures.0,
)

pub search-requires-in-Split : goal.search-requires-in-Split
search-requires-in-Split t c =
    let l = fewer c.requires c.in-Split.ensures c.without-on.ensures c.if-on-eq0.false c.first-v.ensures.0 c.take-with.ensures in (
      omega arith,
      visiting c.requires c.in-Split.ensures c.without-on.ensures c.if-on-eq0.false c.first-v.ensures.0 c.take-with.ensures,
    )

pub returns-in-Yes : goal.returns-in-Yes
returns-in-Yes t c =
    c.search-in-Split.ensures
    ∙ goes_on c.requires c.in-Split.ensures c.without-on.ensures c.if-on-eq0.false c.first-v.ensures.0 c.leave-without.ensures
    c.args.spent c.take-with.ensures (rw c.in-Yes.is at c.in_ok-first-in-Split.ensures)
