-- The table's faults first, then 8, each handed on whatever the answer would be; then the answer. What is told carries its meaning.
use mathlib.Core.Path.{◌∙◌, ap}
use Rattle.std.proofs.lemmas.Result.{err_from_is_err_and}
use Rattle.std.specs.Prelude.{Err}
use Rattle.meanings.specs.Questions.{intact_reply}
use Rattle.answers.specs.declared.Refusal.TheVariants.{Outside}
use Rattle.answers.specs.Said.{intact_says}
use Rattle.faults.proofs.Opening.{past_check, set_outside, set_answered}
use Rattle.intact.proofs.Meaning.{says_within, promised}
use Rattle.intact.proofs.intact_nodes.Goals as goal

pub returns-in_err-table : goal.returns-in_err-table
unfolding intact_reply
returns-in_err-table c =
    let p = err_from_is_err_and c.from_residual.result c.from_residual.ensures.1 in
    rw (p.1, p.2) (promised _ _ _ (Err _) (c.in_err-table.ensures _))

pub returns-then-not-inside : goal.returns-then-not-inside
unfolding intact_reply
returns-then-not-inside c =
    promised _ _ _ (Err Outside) (set_outside (past_check c.in_ok-table.ensures c.nodes.ensures) c.args.ill c.if-not-inside.ensures _)

pub returns : goal.returns
unfolding intact_reply
returns c =
    let found = rw (c.new.ensures, c.in_ok-table.ensures.0) at c.verdict_then_rounds.ensures in
    promised _ _ _ c.verdict_then_rounds.result
    (ap intact_says found ∙ says_within c.args.allowance _
    ∙ set_answered (past_check c.in_ok-table.ensures c.nodes.ensures) c.args.ill c.if-not-inside.ensures _)
