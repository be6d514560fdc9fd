-- Each turn reads some bytes more; nothing is promised but that it ends.
use Prim.Native.Nat.{◌-◌}
use Rattle.intake.proofs.rest.Given as goal

abbrev pub decreases-loop-before : goal.decreases-loop-before
decreases-loop-before g l = 65536 - l.before
