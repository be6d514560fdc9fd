-- The loop keeps `Ready`: an id with a comma makes it ready for the rest, and the last id, a bad one, or too many end the reading.
use Prim.Native.Nat.{◌-◌}
use Rattle.members.proofs.Reading.{Ready}
use Rattle.members.proofs.read_ids.Given as goal

abbrev pub invariant-loop : goal.invariant-loop
invariant-loop l = Ready l.s (64 - l.counter) l.least l.mask l.at
