-- The tests are those of what a node writes; a number takes at most twenty bytes, so the comma's fits.
use native.Mathlib.Omega.{arith}
use Rattle.decimal.proofs.Numeral.{length_word}
use Rattle.members.proofs.Written.{id_out, id_last, length_more}
use Rattle.members.proofs.id_len.Goals as goal

pub returns-then-q-eq0 : goal.returns-then-q-eq0
returns-then-q-eq0 c = rw (id_out c.args.i c.args.q c.if-q-eq0.true)

pub returns-then-q-eq0-2 : goal.returns-then-q-eq0-2
returns-then-q-eq0-2 c =
    let a = c.args in
    rw (id_last a.i a.q c.if-q-eq0.false c.if-q-eq0-2.true) c.number_len-k.ensures

pub overflow_add-result : goal.overflow_add-result
overflow_add-result c = omega (arith, length_word c.args.i (omega arith))

pub returns : goal.returns
returns c =
    let a = c.args in
    rw c.number_len-k.ensures (length_more a.i a.q c.if-q-eq0.false c.if-q-eq0-2.false)
