-- What is counted so far and what the run still has from the next record on are together what the run has.
use mathlib.Core.Path.{◌≡◌, refl, sym, ap, ◌∙◌}
use mathlib.Core.Bool.{true}
use mathlib.Core.List.{List}
use Prim.Native.Nat.{ℕ, ◌+◌, ◌-◌, ◌<◌, ◌≤◌}
use native.Mathlib.Omega.{arith}
use native.Mathlib.Numerals.{add-one}
use native.Mathlib.Nat.{zero-add}
use Rattle.meanings.specs.Table.{records, level}
use Rattle.tables.specs.Run.{inner_run}
use Rattle.tables.proofs.Runs.{from_stop, from_end, from_hit, from_deeper, from_le}
use Rattle.faults.proofs.inner_sets.Invariants.{left}
use Rattle.faults.proofs.inner_sets.Goals.{then-here-above-2, else-here-above-2}
use Rattle.faults.proofs.inner_sets.Goals as goal

pub loop-j-init : goal.loop-j-init
unfolding records
loop-j-init c = (omega arith, zero-add (left c.args.t.now c.level-above.result (c.args.r + 1)))

-- what is returned, once nothing is left
done : (t : List ℕ) (r above count j : ℕ) → above ≡ level t r → count + left t above j ≡ left t above (r + 1) → left t above j ≡ 0 →
    (count ≡ inner_run (λ i. true) t (level t r) (records t - (r + 1)) (r + 1)) × (count ≤ records t)
done t r above count j e v z =
    let n : count ≡ left t above (r + 1) = omega arith in
    (n ∙ ap (λ (k : ℕ). left t k (r + 1)) e, omega (arith, from_le (λ i. true) t above (r + 1)))

pub returns-then-here-above : goal.returns-then-here-above
returns-then-here-above c =
    let T = c.args.t.now in
    let a = c.level-above.result in
    let j = c.loop-j.j in
    let h : level T j ≤ a = omega (arith, c.if-here-above.true, c.level-here.ensures.0) in
    done T c.args.r a c.loop-j.count j c.level-above.ensures.0 c.loop-j.invariant.1 (from_stop (λ i. true) T a j h)

pub overflow_add-count : goal.overflow_add-count
overflow_add-count c = omega arith

pub loop-j-preserved : goal.loop-j-preserved
unfolding records
loop-j-preserved c =
    let T = c.args.t.now in
    let a = c.level-above.result in
    let j = c.loop-j.j in
    let v = c.loop-j.invariant in
    let el = c.level-here.ensures.0 in
    let l : j < records T = c.loop-j-test.true in
    let h : a < level T j = omega (arith, c.if-here-above.false) in
    elim c.if-here-above-2.branch [
      | then-here-above-2 w ↦
          let e = from_hit (λ i. true) T a j l h (sym el ∙ w.if-here-above-2.true ∙ add-one a) refl in (omega arith, omega arith)
      | else-here-above-2 w ↦
          let e = from_deeper (λ i. true) T a j l h (λ q. w.if-here-above-2.false (el ∙ q ∙ sym (add-one a))) in (omega arith, omega arith)
    ]

pub returns : goal.returns
unfolding records
returns c =
    let T = c.args.t.now in
    let a = c.level-above.result in
    let j = c.loop-j.j in
    done T c.args.r a c.loop-j.count j c.level-above.ensures.0 c.loop-j.invariant.1 (from_end (λ i. true) T a j c.loop-j-test.false)
