-- A store past the end changes nothing.
use mathlib.Core.Path.{sym}
use lib.Seq.{set_out}
use Rattle.listing_walk.proofs.put.Goals as goal

pub returns-else-at-out : goal.returns-else-at-out
returns-else-at-out c = sym (set_out c.args.out.now c.args.at c.args.x c.if-at-out.false)
