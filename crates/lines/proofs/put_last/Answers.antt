-- The line's end goes right behind the list.
use native.Mathlib.Omega.{arith}
use Prim.Native.Nat.{◌<◌}
use lib.ListN.{length}
use Rattle.members.specs.Members.{member_text}
use Rattle.decimal.proofs.Place.{within_byte, next_byte}
use Rattle.lines.specs.Lines.{last_text}
use Rattle.lines.proofs.Texts.{length_last}
use Rattle.lines.proofs.put_last.Goals as goal

pub bounds-out-k : goal.bounds-out-k
bounds-out-k c =
    let room : length (member_text c.args.m) < length c.args.out.now = omega (arith, length_last c.args.m) in
    within_byte _ _ _ _ c.put_members-k.ensures room

pub returns : goal.returns
unfolding last_text
returns c =
    let room : length (member_text c.args.m) < length c.args.out.now = omega (arith, length_last c.args.m) in
    next_byte _ _ _ _ c.put_members-k.ensures room 10
