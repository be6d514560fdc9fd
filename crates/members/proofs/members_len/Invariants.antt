-- What is counted and what the rest of the set takes make up the whole list: each turn moves one node from the one to the other. The whole
-- takes at most 181 bytes, so the count fits.
use Prim.Native.Nat.{◌+◌, ◌-◌, ◌^◌, ◌<◌}
use mathlib.Core.Path.{◌≡◌}
use lib.ListN.{length}
use Rattle.members.specs.Members.{member_text}
use Rattle.members.proofs.Walk.{ids_left}
use Rattle.members.proofs.members_len.Given as goal

abbrev pub decreases-loop-q : goal.decreases-loop-q
decreases-loop-q l = l.q

abbrev pub invariant-loop-q : goal.invariant-loop-q
invariant-loop-q l = (l.q < 2 ^ (64 - l.i)) × (l.n + length (ids_left l.i l.q) ≡ length (member_text l.m))
