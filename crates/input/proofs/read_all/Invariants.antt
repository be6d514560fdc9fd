-- A read that goes on has taken some of what is left of the buffer, or one of the tries.
use Rattle.std.proofs.Common.{length, ◌-◌, ◌+◌, ◌≤◌}
use Rattle.input.proofs.read_all.Given as goal

abbrev pub invariant-loop-at : goal.invariant-loop-at
invariant-loop-at g l = l.at ≤ length l.buf

abbrev pub decreases-loop-at : goal.decreases-loop-at
decreases-loop-at g l = (length l.buf - l.at) + l.tries
