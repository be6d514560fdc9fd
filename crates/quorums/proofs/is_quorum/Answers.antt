-- The table's faults first, then 8 for either set, each handed on whatever the answer would be; then the answer.
use mathlib.Core.Path.{sym, ap, ◌∙◌}
use Rattle.std.proofs.lemmas.Result.{err_from_is_err_and}
use Rattle.meanings.specs.Questions.{yes_or_no, quorum_reply}
use Rattle.faults.proofs.Opening.{past_check, sets_outside, sets-answered, second_inside}
use Rattle.quorums.proofs.Meaning.{says_yes}
use Rattle.quorums.proofs.is_quorum.Goals as goal

pub returns-in_err-table : goal.returns-in_err-table
unfolding quorum_reply
returns-in_err-table c =
    let p = err_from_is_err_and c.from_residual.result c.from_residual.ensures.1 in
    rw (p.1, p.2) (c.in_err-table.ensures _)

pub returns-then-not-inside : goal.returns-then-not-inside
unfolding quorum_reply
returns-then-not-inside c =
    let passed = past_check c.in_ok-table.ensures c.nodes.ensures in
    sets_outside passed c.args.out c.args.set c.ranges.out.fits c.ranges.set.fits (sym c.if-not-inside.true ∙ c.inside.ensures) _

pub quorum_of-requires : goal.quorum_of-requires
quorum_of-requires c =
    let passed = past_check c.in_ok-table.ensures c.nodes.ensures in
    rw c.in_ok-table.ensures.0
    (second_inside passed c.args.out c.args.set c.ranges.out.fits c.ranges.set.fits (sym c.if-not-inside.false ∙ c.inside.ensures))

pub returns : goal.returns
unfolding quorum_reply
returns c =
    let passed = past_check c.in_ok-table.ensures c.nodes.ensures in
    says_yes c.quorum_of.result
    ∙ ap yes_or_no (rw c.in_ok-table.ensures.0 at c.quorum_of.ensures)
    ∙ sets-answered passed c.args.out c.args.set c.ranges.out.fits c.ranges.set.fits (sym c.if-not-inside.false ∙ c.inside.ensures) _
