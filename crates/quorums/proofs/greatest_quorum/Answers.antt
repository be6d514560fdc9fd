-- The table's faults first, then 8 for either set, each handed on whatever the answer would be; then the greatest quorum and its rounds.
use mathlib.Core.Path.{sym, ap₂, ◌∙◌}
use mathlib.Core.List.{[], ◌∷◌}
use Prim.Native.Nat.{ℕ}
use Rattle.std.proofs.lemmas.Result.{err_from_is_err_and}
use Rattle.meanings.specs.Replies.{reply, ◌is◌, Set, Rounds}
use Rattle.meanings.specs.Questions.{greatest_reply}
use Rattle.faults.proofs.Opening.{past_check, sets_outside, sets-answered, second_inside}
use Rattle.quorums.proofs.greatest_quorum.Goals as goal

pub returns-in_err-table : goal.returns-in_err-table
unfolding greatest_reply
returns-in_err-table c =
    let p = err_from_is_err_and c.from_residual.result c.from_residual.ensures.1 in
    rw (p.1, p.2) (c.in_err-table.ensures _)

pub returns-then-not-inside : goal.returns-then-not-inside
unfolding greatest_reply
returns-then-not-inside c =
    let passed = past_check c.in_ok-table.ensures c.nodes.ensures in
    sets_outside passed c.args.out c.args.within c.ranges.out.fits c.ranges.within.fits (sym c.if-not-inside.true ∙ c.inside.ensures) _

pub greatest_of-requires : goal.greatest_of-requires
greatest_of-requires c =
    let passed = past_check c.in_ok-table.ensures c.nodes.ensures in
    rw c.in_ok-table.ensures.0
    (second_inside passed c.args.out c.args.within c.ranges.out.fits c.ranges.within.fits (sym c.if-not-inside.false ∙ c.inside.ensures))

pub returns : goal.returns
unfolding greatest_reply
returns c =
    let passed = past_check c.in_ok-table.ensures c.nodes.ensures in
    let found = rw c.in_ok-table.ensures.0 at c.greatest_of.ensures in
    ap₂ (λ (g k : ℕ). reply 0 (Set is g ∷ Rounds is k ∷ [])) found.0 found.1
    ∙ sets-answered passed c.args.out c.args.within c.ranges.out.fits c.ranges.within.fits (sym c.if-not-inside.false ∙ c.inside.ensures) _
