-- A 1 shifted by less than 64 loses nothing.
use native.Mathlib.Nat.{one-mul, mod-eq_of_lt}
use lib.Pow.{pow-lt}
use Rattle.members.proofs.single.Goals as goal

pub returns : goal.returns
returns c = simp one-mul (mod-eq_of_lt (pow-lt c.requires))
