-- There is room for the line that is reached, since it is part of the text; written right behind what is written so far, it makes that longer.
use native.Mathlib.Omega.{arith}
use Prim.Native.Nat.{ℕ, ◌+◌, ◌-◌, ◌≤◌, ◌<◌}
use mathlib.Core.Path.{◌≡◌, refl, sym, ap, ◌∙◌, subst}
use mathlib.Core.List.{List, [], ◌++◌, append_assoc, append-nil}
use lib.ListN.{length, take, drop, get_or, length-append}
use Rattle.decimal.specs.Bytes.{Written}
use Rattle.decimal.proofs.Place.{within, room, next}
use Rattle.words.specs.declared.Word.{Word}
use Rattle.words.specs.Words.{word_text}
use Rattle.report_lines.specs.Lines.{set_line, set_lines}
use Rattle.report_parts.proofs.Sets.{next_set, length_next, no_set}
use Rattle.report_parts.proofs.put_sets.Invariants.{Sofar}
use Rattle.report_parts.proofs.put_sets.Goals as goal

abbrev line_at : Word → List ℕ → ℕ → List ℕ
line_at w s i = set_line (word_text w) (get_or s i 0)

module _ (before : List ℕ) (w : Word) (s out : List ℕ) (at i : ℕ) (v : Sofar before w s out at i) (fits : length (set_lines (word_text w) s) ≤ length before) (inside : i < length s) where
  has_room : length v.text + length (line_at w s i) ≤ length before
  has_room =
      omega (
        arith,
        fits,
        ap (length {A = ℕ}) v.whole,
        length-append v.text (set_lines (word_text w) (drop i s)),
        length_next (word_text w) s i inside,
      )

pub loop-set-init : goal.loop-set-init
loop-set-init c = record { text = []; written = record { count = refl; bytes = refl }; whole = refl }

pub slice_bounds-put_line-count : goal.slice_bounds-put_line-count
slice_bounds-put_line-count c =
    within _ _ _ _ c.loop-set.invariant.written _ (has_room _ _ _ _ _ _ c.loop-set.invariant c.requires c.loop-set-test.true)

pub slice_bounds-put_line-start : goal.slice_bounds-put_line-start
slice_bounds-put_line-start c =
    within _ _ _ _ c.loop-set.invariant.written _ (has_room _ _ _ _ _ _ c.loop-set.invariant c.requires c.loop-set-test.true)

pub put_line-at-requires : goal.put_line-at-requires
put_line-at-requires c =
    rw c.one.ensures.comes
    (room _ _ _ _ c.loop-set.invariant.written _ (has_room _ _ _ _ _ _ c.loop-set.invariant c.requires c.loop-set-test.true))

pub loop-set-preserved : goal.loop-set-preserved
loop-set-preserved c =
    let a = c.args in
    let s = a.sets.now in
    let i = c.loop-set.set-index in
    let v = c.loop-set.invariant in
    let its_line : List ℕ = line_at a.letter s i in
    let w : Written its_line (take (length c.loop-set.out - c.loop-set.at) (drop c.loop-set.at c.loop-set.out)) c.put_line-at.new.out c.put_line-at.result =
    rw (← c.one.ensures.comes) c.put_line-at.ensures
    in
    record {
      text = v.text ++ its_line;
      written = next _ _ _ _ v.written its_line (has_room _ _ _ _ _ _ v c.requires c.loop-set-test.true) _ _ w;
      whole =
          append_assoc v.text its_line (set_lines (word_text a.letter) (drop (i + 1) s))
          ∙ ap (λ (y : List ℕ). v.text ++ y) (sym (next_set (word_text a.letter) s i c.loop-set-test.true)) ∙ v.whole;
    }

pub returns : goal.returns
returns c =
    let a = c.args in
    let v = c.loop-set.invariant in
    let w = word_text a.letter in
    let n = no_set w a.sets.now c.loop-set.set-index (omega (arith, c.loop-set-test.false)) in
    let e : v.text ≡ set_lines w a.sets.now = sym (append-nil v.text) ∙ ap (λ (x : List ℕ). v.text ++ x) (sym n) ∙ v.whole in
    subst (λ (x : List ℕ). Written x a.out.now c.loop-set.out c.loop-set.at) e v.written
