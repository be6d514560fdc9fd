-- The three tests are those of the definition, in its order.
use Rattle.faults.proofs.Laws.{odd_count, no_record, over_count}
use Rattle.faults.proofs.bad_count.Goals as goal

pub returns-then-words-eq1 : goal.returns-then-words-eq1
returns-then-words-eq1 c = odd_count c.args.t.now c.if-words-eq1.true

pub returns-then-words-eq0 : goal.returns-then-words-eq0
returns-then-words-eq0 c = no_record c.args.t.now c.if-words-eq0.true

pub returns : goal.returns
returns c = over_count c.args.t.now c.if-words-eq1.false c.if-words-eq0.false
