-- Past the end the text reads 0.
use lib.ListN.{get_or-eq_default}
use Rattle.decimal.proofs.byte_at.Goals as goal

pub returns-else-i-s : goal.returns-else-i-s
returns-else-i-s c = simp (get_or-eq_default c.args.s.now 0 c.if-i-s.false)
