-- Each field counts for its text and the byte behind it, which are at most 182.
use native.Mathlib.Omega.{arith}
use Rattle.words.specs.declared.Word.TheVariants as Wx
use Rattle.fields.specs.declared.Field.TheVariants as Fx
use Rattle.fields.proofs.Laws.{length_field, length_rest}
use Rattle.fields.proofs.line_len.Goals as goal

pub loop-field-preserved : goal.loop-field-preserved
loop-field-preserved c =
    let v = c.loop-field.invariant in
    let e = length_field c.args.fields.now c.loop-field.field-index (Fx.Fixed Wx.Refused) c.loop-field-test.true in
    record {
      counted = omega (arith, v.counted, e, c.text_len.ensures.long);
      within = omega (arith, v.within, c.text_len.ensures.within);
    }

pub returns : goal.returns
returns c =
    let v = c.loop-field.invariant in
    let e = length_rest c.args.fields.now c.loop-field.field-index (omega (arith, c.loop-field-test.false)) in
    record {
      long = omega (arith, v.counted, e);
      within = omega (arith, v.within, c.requires, c.loop-field.auto.field-index-end);
    }
