-- What is left of the lines stands behind what is handed over; each turn hands one line more over.
use native.Mathlib.Omega.{arith}
use Prim.Native.Nat.{ℕ, ◌+◌, ◌≤◌}
use mathlib.Core.Path.{◌≡◌, sym, ap}
use mathlib.Core.List.{List, ◌++◌}
use lib.ListN.{length, drop, get_or}
use Rattle.words.specs.Words.{word_text}
use Rattle.fields.specs.Fields.{line_of}
use Rattle.report_lines.specs.Lines.{set_line, set_lines}
use Rattle.report.specs.Report.{report_on}
use Rattle.report_parts.proofs.Sets.{next_set, length_next, no_set}
use Rattle.printing.specs.Printing.{Stands, Handed}
use Rattle.printing.proofs.Laws.{stands_as, stands_first, stands_second, handed_none, handed_up, handed_as}
use Rattle.printing.proofs.Most.{set_most}
use Rattle.printing.proofs.show_sets.Goals as goal

pub show-requires : goal.show-requires
show-requires g c =
    let a = c.args in
    let l = c.loop-set in
    let v = l.invariant in
    let its_line : List ℕ = set_line (word_text a.letter) (get_or a.sets.now l.set-index 0) in
    let rest : List ℕ = set_lines (word_text a.letter) (drop (l.set-index + 1) a.sets.now) in
    let stands_next : Stands (report_on a.table.now) l.place (its_line ++ rest) =
    stands_as _ _ _ _ (next_set (word_text a.letter) a.sets.now l.set-index c.loop-set-test.true) v.stands in
    let fits : length (line_of c.one-line.result) ≤ 1092 = omega (arith, ap length c.one-line.ensures.comes, set_most a.letter (get_or a.sets.now l.set-index 0)) in
    (stands_as _ _ _ _ (sym c.one-line.ensures.comes) (stands_first _ _ its_line rest stands_next), omega (arith, v.within, v.low, v.few, c.loop-set-test.true), fits)

pub returns-in_err-place : goal.returns-in_err-place
returns-in_err-place g c = handed_none _ _ _ _ c.from_residual.ensures.0

pub loop-set-preserved : goal.loop-set-preserved
loop-set-preserved g c =
    let a = c.args in
    let l = c.loop-set in
    let v = l.invariant in
    let w = word_text a.letter in
    let x = a.sets.now in
    let its_line : List ℕ = set_line w (get_or x l.set-index 0) in
    let rest : List ℕ = set_lines w (drop (l.set-index + 1) x) in
    let stands_next : Stands (report_on a.table.now) l.place (its_line ++ rest) =
    stands_as _ _ _ _ (next_set w x l.set-index c.loop-set-test.true) v.stands in
    let shown : (c.in_ok-place.place ≡ l.place + length its_line) × (c.in_ok-place.place ≤ l.place + 1092) =
    handed_up its_line l.place 1092 c.show.result c.in_ok-place.place c.in_ok-place.was (handed_as _ _ _ _ _ c.one-line.ensures.comes c.show.ensures) in
    record {
      few = v.few;
      stands = stands_second _ _ its_line rest _ shown.0 stands_next;
      counted = omega (arith, v.counted, shown.0, length_next w x l.set-index c.loop-set-test.true);
      within = omega (arith, v.within, shown.1);
      low = v.low;
    }

pub returns : goal.returns
unfolding Handed
returns g c =
    let a = c.args in
    let v = c.loop-set.invariant in
    let n = no_set (word_text a.letter) a.sets.now c.loop-set.set-index (omega (arith, c.loop-set-test.false)) in
    (omega (arith, v.counted, ap (length {A = ℕ}) n), omega (arith, v.within, v.few, c.loop-set.auto.set-index-end))
