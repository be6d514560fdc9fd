-- The bytes are those of the line, and what is taken is counted.
use Prim.Native.Nat.{ℕ}
use mathlib.Core.Path.{ap}
use lib.ListN.{length}
use Rattle.printing.proofs.Laws.{handed_counted}
use Rattle.printing.proofs.hand.Goals as goal

pub returns : goal.returns
returns g c = handed_counted _ _ c.write_all.result _ _ c.counted.ensures (ap (length {A = ℕ}) c.requires.0) c.requires.1
