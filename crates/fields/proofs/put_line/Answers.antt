-- There is room for the field that is reached, since it is part of the line; written right behind the text so far, it makes the text longer.
use Prim.Native.Nat.{ℕ, ◌+◌, ◌-◌, ◌≤◌, ◌<◌}
use native.Mathlib.Omega.{arith}
use mathlib.Core.Path.{◌≡◌, sym, ap, ◌∙◌, subst}
use mathlib.Core.List.{List, ◌++◌, append_assoc, append-nil}
use lib.ListN.{length, take, drop, get_or, length-append}
use Rattle.decimal.specs.Bytes.{Written}
use Rattle.decimal.proofs.Place.{within, room, next}
use Rattle.words.specs.declared.Word.TheVariants as Wx
use Rattle.fields.specs.declared.Field.{Field}
use Rattle.fields.specs.declared.Field.TheVariants as Fx
use Rattle.fields.specs.Fields.{field_text, line_of, end_at, ended}
use Rattle.fields.proofs.Laws.{next_field, no_field}
use Rattle.fields.proofs.put_line.Invariants.{Sofar}
use Rattle.fields.proofs.put_line.Goals as goal

-- the field that is reached, with the byte behind it
abbrev field_at : List Field → ℕ → List ℕ
field_at l i = ended (field_text (get_or l i (Fx.Fixed Wx.Refused))) (end_at (length l) i)

module _ (before : List ℕ) (l : List Field) (out : List ℕ) (at i : ℕ) (v : Sofar before l out at i) (fits : length (line_of l) ≤ length before) (inside : i < length l) where
  has_room : length v.text + length (field_at l i) ≤ length before
  has_room =
      omega (
        arith,
        fits,
        ap (length {A = ℕ}) (next_field l i (Fx.Fixed Wx.Refused) inside),
        ap (length {A = ℕ}) v.whole,
        length-append v.text (line_of (drop i l)),
        length-append (field_at l i) (line_of (drop (i + 1) l)),
      )

pub slice_bounds-put_field-count : goal.slice_bounds-put_field-count
slice_bounds-put_field-count c =
    within _ _ _ _ c.loop-i.invariant.written _ (has_room _ _ _ _ _ c.loop-i.invariant c.requires c.loop-i-test.true)

pub slice_bounds-put_field-start : goal.slice_bounds-put_field-start
slice_bounds-put_field-start c =
    within _ _ _ _ c.loop-i.invariant.written _ (has_room _ _ _ _ _ c.loop-i.invariant c.requires c.loop-i-test.true)

pub put_field-at-requires : goal.put_field-at-requires
put_field-at-requires c =
    rw c.end_at-end.ensures
    (room _ _ _ _ c.loop-i.invariant.written _ (has_room _ _ _ _ _ c.loop-i.invariant c.requires c.loop-i-test.true))

pub loop-i-preserved : goal.loop-i-preserved
loop-i-preserved c =
    let v = c.loop-i.invariant in
    let f = c.args.fields.now in
    let i = c.loop-i.i in
    let w : Written (field_at f i) (take (length c.loop-i.out - c.loop-i.at) (drop c.loop-i.at c.loop-i.out)) c.put_field-at.new.out c.put_field-at.result =
    rw (← c.end_at-end.ensures) c.put_field-at.ensures
    in
    record {
      text = v.text ++ field_at f i;
      written = next _ _ _ _ v.written (field_at f i) (has_room _ _ _ _ _ v c.requires c.loop-i-test.true) _ _ w;
      whole =
          append_assoc v.text (field_at f i) (line_of (drop (i + 1) f))
          ∙ ap (λ (x : List ℕ). v.text ++ x) (sym (next_field f i (Fx.Fixed Wx.Refused) c.loop-i-test.true)) ∙ v.whole;
    }

pub returns : goal.returns
returns c =
    let v = c.loop-i.invariant in
    let f = c.args.fields.now in
    let n = no_field f c.loop-i.i (omega (arith, c.loop-i-test.false)) in
    let e : v.text ≡ line_of f = sym (append-nil v.text) ∙ ap (λ (x : List ℕ). v.text ++ x) (sym n) ∙ v.whole in
    subst (λ (x : List ℕ). Written x c.args.out.now c.loop-i.out c.loop-i.at) e v.written
