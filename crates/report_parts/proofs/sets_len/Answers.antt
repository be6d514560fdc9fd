-- What is counted so far and the lines of the sets that are left are as long as all; each turn counts one set more.
use native.Mathlib.Omega.{arith}
use native.Mathlib.Nat.{zero-add}
use Prim.Native.Nat.{ℕ}
use mathlib.Core.Path.{ap}
use lib.ListN.{length}
use Rattle.words.specs.Words.{word_text}
use Rattle.report_lines.specs.Lines.{set_lines}
use Rattle.report_parts.proofs.Sets.{length_next, no_set}
use Rattle.report_parts.proofs.sets_len.Goals as goal

pub loop-set-init : goal.loop-set-init
loop-set-init c = record {
  few = c.requires;
  counted = zero-add (length (set_lines (word_text c.args.letter) c.args.sets.now));
  within = omega arith;
}

pub overflow_add-total : goal.overflow_add-total
overflow_add-total c =
    let v = c.loop-set.invariant in
    omega (arith, v.within, v.few, c.loop-set-test.true, c.line_len-total.ensures.within)

pub loop-set-preserved : goal.loop-set-preserved
loop-set-preserved c =
    let a = c.args in
    let v = c.loop-set.invariant in
    let l = c.line_len-total.ensures in
    record {
      few = v.few;
      counted =
          omega (arith, v.counted, l.long, ap (length {A = ℕ}) c.one.ensures.comes, length_next (word_text a.letter) a.sets.now c.loop-set.set-index c.loop-set-test.true);
      within = omega (arith, v.within, l.within);
    }

pub returns : goal.returns
returns c =
    let v = c.loop-set.invariant in
    let n = no_set (word_text c.args.letter) c.args.sets.now c.loop-set.set-index (omega (arith, c.loop-set-test.false)) in
    record {
      long = omega (arith, v.counted, ap (length {A = ℕ}) n);
      within = omega (arith, v.within, c.loop-set.auto.set-index-end);
    }
