-- At each place the text of what is left, written there, gives what is promised: writing one node and going on behind it changes nothing
-- of that. At the end nothing is left.
use Prim.Native.Nat.{ℕ, ◌+◌, ◌-◌, ◌^◌, ◌≤◌, ◌<◌}
use mathlib.Core.Path.{◌≡◌}
use mathlib.Core.List.{List}
use lib.ListN.{length}
use Rattle.decimal.specs.Bytes.{at_front}
use Rattle.decimal.proofs.Place.{at_place}
use Rattle.members.specs.Members.{member_text}
use Rattle.members.proofs.Walk.{ids_left}
use Rattle.members.proofs.put_members.Given as goal

pub record Left (out₀ : List ℕ) (m : ℕ) (out : List ℕ) (i q at : ℕ) : Type 0 where
  pub fits : q < 2 ^ (64 - i)
  pub place : at + length (ids_left i q) ≡ length (member_text m)
  pub same : length out ≡ length out₀
  pub room : length (member_text m) ≤ length out₀
  pub promised : at_place at (ids_left i q) out ≡ at_front (member_text m) out₀

abbrev pub decreases-loop-q : goal.decreases-loop-q
decreases-loop-q l = l.q

abbrev pub invariant-loop-q : goal.invariant-loop-q
invariant-loop-q l = Left l.initial.out l.m l.out l.i l.q l.at
