-- The test is that of the definition.
use borrow.Author.Tests.{eq-eqb, ne_eqb}
use Rattle.report_parts.specs.Parts.{following}
use Rattle.report_parts.proofs.following.Goals as goal

pub returns-then-r-eq0 : goal.returns-then-r-eq0
unfolding following
returns-then-r-eq0 c = rw (eq-eqb _ 0 c.if-r-eq0.true)

pub returns : goal.returns
unfolding following
returns c = rw (ne_eqb _ 0 c.if-r-eq0.false)
