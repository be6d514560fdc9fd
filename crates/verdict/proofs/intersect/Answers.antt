-- The table's faults first, then 8, each handed on whatever the answer would be; then the search's answer, with what it means.
use mathlib.Core.Path.{◌∙◌, ap}
use Rattle.std.proofs.lemmas.Result.{err_from_is_err_and}
use Rattle.meanings.specs.Questions.{verdict_reply}
use Rattle.answers.specs.declared.Refusal.TheVariants.{Outside}
use Rattle.answers.specs.Said.{verdict_says}
use Rattle.faults.proofs.Opening.{past_check, set_outside, set_answered}
use Rattle.verdict.proofs.Meaning.{says_within, kept_refused, kept_search}
use Rattle.verdict.proofs.intersect.Goals as goal

pub returns-in_err-table : goal.returns-in_err-table
unfolding verdict_reply
returns-in_err-table c =
    let p = err_from_is_err_and c.from_residual.result c.from_residual.ensures.1 in
    rw (p.1, p.2) (kept_refused _ _ _ _ (c.in_err-table.ensures _))

pub returns-then-not-inside : goal.returns-then-not-inside
unfolding verdict_reply
returns-then-not-inside c =
    kept_refused _ _ _ Outside (set_outside (past_check c.in_ok-table.ensures c.nodes.ensures) c.args.out c.if-not-inside.ensures _)

pub returns : goal.returns
unfolding verdict_reply
returns c =
    let found = rw (c.new.ensures, c.in_ok-table.ensures.0) at c.search_from.ensures in
    kept_search _ _ _ _ found
    (ap verdict_says found ∙ says_within c.args.allowance _
    ∙ set_answered (past_check c.in_ok-table.ensures c.nodes.ensures) c.args.out c.if-not-inside.ensures _)
