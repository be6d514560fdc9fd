-- The word at an odd place is the member mask by definition, and a word is below 2 ^ 64.
use mathlib.Core.Path.{ap}
use Prim.Native.Nat.{ℕ, ◌+◌, ◌*◌}
use native.Mathlib.Numerals.{add-one}
use native.Mathlib.Omega.{arith}
use lib.ListN.{get_or}
use Rattle.meanings.specs.Table.{members}
use Rattle.tables.proofs.members.Goals as goal

pub returns : goal.returns
unfolding members
returns c =
    (ap (λ (n : ℕ). get_or c.args.t.now n 0) (add-one (2 * c.args.r)), omega (arith, c.type_inv.t (2 * c.args.r + 1)))
