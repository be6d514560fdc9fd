-- A number has at most twenty digits, and a set of nodes takes at most 181 bytes.
use native.Mathlib.Omega.{arith}
use Prim.Native.Nat.{◌^◌, ◌<◌}
use Rattle.decimal.proofs.Numeral.{length_word}
use Rattle.members.proofs.Written.{length-members}
use Rattle.fields.proofs.text_len.Goals as goal

pub returns-in-Number : goal.returns-in-Number
returns-in-Number c =
    let h : c.in-Number.n < 2 ^ 64 = omega arith in
    rw c.in-Number.is (record { long = c.number_len.ensures; within = omega (arith, c.number_len.ensures, length_word c.in-Number.n h) })

pub returns-in-Set : goal.returns-in-Set
returns-in-Set c =
    let most = length-members c.in-Set.set in
    rw c.in-Set.is (record { long = omega (arith, c.members_len.ensures, most); within = omega (arith, c.members_len.ensures, most) })
