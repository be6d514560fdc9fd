-- Those present keep the greatest quorum that was asked for: nodes judged satisfied are no longer left to judge, unsatisfied ones are
-- struck, and then those they touch are left to judge.
use Rattle.greatest.proofs.Laws.{Lasts, measure}
use Rattle.greatest.proofs.greatest_within.Given as goal

abbrev pub invariant-loop-left : goal.invariant-loop-left
invariant-loop-left l = Lasts l.plan l.d l.u l.must l.present l.left

abbrev pub decreases-loop-left : goal.decreases-loop-left
decreases-loop-left l = measure l.present l.left
