-- What is counted and what the rest of the set takes make up the whole list: each turn moves one node from the one to the other. The whole
-- takes at most 181 bytes, so the count fits.
use native.Mathlib.Omega.{arith}
use mathlib.Core.Path.{◌≡◌, ap}
use lib.ListN.{length}
use Rattle.members.proofs.Written.{text_none, length-members}
use Rattle.members.proofs.Walk.{left_fits, left_step, left_nothing, below_64, left-all}
use Rattle.members.proofs.members_len.Goals as goal

pub returns-then-m-eq0 : goal.returns-then-m-eq0
returns-then-m-eq0 c = rw (text_none c.args.m c.if-m-eq0.true)

pub loop-q-init : goal.loop-q-init
loop-q-init c = (omega arith, omega (arith, ap length (left-all c.args.m c.if-m-eq0.false)))

pub overflow_add-n : goal.overflow_add-n
overflow_add-n c =
    let l = c.loop-q in
    let h = below_64 l.i l.q l.invariant.0 c.loop-q-test.true in
    omega (arith, c.id_len-n.ensures, l.invariant.1, left_step l.i l.q l.invariant.0 h, length-members c.args.m)

pub overflow_add-i : goal.overflow_add-i
overflow_add-i c = let l = c.loop-q in omega (arith, below_64 l.i l.q l.invariant.0 c.loop-q-test.true)

pub loop-q-preserved : goal.loop-q-preserved
loop-q-preserved c =
    let l = c.loop-q in
    let h = below_64 l.i l.q l.invariant.0 c.loop-q-test.true in
    (left_fits l.i l.q l.invariant.0 h, omega (arith, c.id_len-n.ensures, l.invariant.1, left_step l.i l.q l.invariant.0 h))

pub returns : goal.returns
returns c =
    let l = c.loop-q in
    let z : l.q ≡ 0 = omega arith in
    omega (arith, l.invariant.1, ap length (left_nothing l.i l.q z))
