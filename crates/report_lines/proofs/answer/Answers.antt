-- By cases of the two tests.
use borrow.Author.Tests.{eq-eqb, ne_eqb}
use Rattle.report_lines.specs.Lines.{answer_text}
use Rattle.report_lines.proofs.answer.Goals as goal

pub returns-then-r-ne0 : goal.returns-then-r-ne0
unfolding answer_text
returns-then-r-ne0 c = rw (ne_eqb _ 0 c.if-r-ne0.true)

pub returns-then-r-eq1 : goal.returns-then-r-eq1
unfolding answer_text
returns-then-r-eq1 c = rw (eq-eqb _ 0 c.if-r-ne0.false, eq-eqb _ 1 c.if-r-eq1.true)

pub returns : goal.returns
unfolding answer_text
returns c = rw (eq-eqb _ 0 c.if-r-ne0.false, ne_eqb _ 1 c.if-r-eq1.false)
