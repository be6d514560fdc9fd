-- The loop keeps `Ready`: an id with a comma makes it ready for the rest, and the last id, a bad one, or too many end the reading.
use native.Mathlib.Omega.{arith}
use Prim.Native.Nat.{◌-◌}
use mathlib.Core.Path.{sym, ◌∙◌}
use Rattle.decimal.proofs.Order.{rest}
use Rattle.members.proofs.Reading.{begin, next, ready_bad, ready_out}
use Rattle.members.proofs.read_ids.Goals as goal

pub loop-init : goal.loop-init
loop-init c = begin _

pub slice_bounds-read_id-count : goal.slice_bounds-read_id-count
slice_bounds-read_id-count c = omega (arith, c.loop.invariant.inside)

pub returns-in_err-v : goal.returns-in_err-v
returns-in_err-v c =
    let l = c.loop in
    c.from_residual.ensures
    ∙ sym (ready_bad _ _ _ _ _ l.invariant (63 - l.counter) (omega arith) (rw (rest c.args.s.now l.at) at (sym c.in_err-v.ensures)))

pub overflow_add-least : goal.overflow_add-least
overflow_add-least c = omega (arith, (next _ _ _ _ _ c.loop.invariant c.loop-test.true _ _ c.in_ok-v.ensures).id)

pub single-mask-requires : goal.single-mask-requires
single-mask-requires c = omega (arith, (next _ _ _ _ _ c.loop.invariant c.loop-test.true _ _ c.in_ok-v.ensures).id)

pub overflow_add-mask : goal.overflow_add-mask
overflow_add-mask c =
    omega (arith, (next _ _ _ _ _ c.loop.invariant c.loop-test.true _ _ c.in_ok-v.ensures).sum, c.single-mask.ensures)

pub overflow_add-at : goal.overflow_add-at
overflow_add-at c = omega (arith, (next _ _ _ _ _ c.loop.invariant c.loop-test.true _ _ c.in_ok-v.ensures).end)

pub returns-then-byte_at-ne44 : goal.returns-then-byte_at-ne44
returns-then-byte_at-ne44 c =
    let n = next _ _ _ _ _ c.loop.invariant c.loop-test.true _ _ c.in_ok-v.ensures in
    rw c.single-mask.ensures (sym (n.last (rw c.byte_at.ensures at c.if-byte_at-ne44.true)))

pub loop-preserved : goal.loop-preserved
loop-preserved c =
    let n = next _ _ _ _ _ c.loop.invariant c.loop-test.true _ _ c.in_ok-v.ensures in
    rw c.single-mask.ensures (n.comma (rw c.byte_at.ensures at c.if-byte_at-ne44.false))

pub returns : goal.returns
returns c = sym (ready_out _ _ _ _ _ c.loop.invariant (omega arith))
