-- The tests are those of an unknown archive, one after the other; at level 0 the run of deeper records has all inner sets, whether or not levels
-- are in step.
use mathlib.Core.Path.{◌≡◌, sym, ap, ◌∙◌}
use mathlib.Core.Bool.{true, false, not}
use mathlib.Core.List.{List}
use mathlib.Core.Logic.{⊎_elim}
use Prim.Native.Nat.{ℕ}
use native.Mathlib.Omega.{arith}
use borrow.Author.Tests.{eqb-true, eqb-false}
use lib.Dec.{eqb}
use lib.ListN.{length}
use Rattle.sets.proofs.Bools.{either}
use Rattle.meanings.specs.Faults.{no_threshold}
use Rattle.meanings.specs.Table.{records, threshold, level, members, inner_sets}
use Rattle.tables.proofs.Runs.{head_inner}
use Rattle.faults.proofs.Laws.{some-threshold, deep-zero, members-zero, inner_zero, unknown_fits}
use Rattle.faults.proofs.no_threshold.Goals as goal

pub returns-then-threshold-ne0 : goal.returns-then-threshold-ne0
returns-then-threshold-ne0 c =
    sym (some-threshold c.args.t.now c.args.r (λ e. c.if-threshold-ne0.true (c.threshold.ensures.0 ∙ e)))

-- with threshold 0, level 0 and no members the inner sets decide
by_inner : (t : List ℕ) (r : ℕ) → threshold t r ≡ 0 → level t r ≡ 0 → members t r ≡ 0 → (n : ℕ) → n ≡ length (inner_sets t r) → not (eqb n 0) ≡ no_threshold t r
by_inner t r a b d n e =
    ⊎_elim
    (λ (p : eqb n 0 ≡ true). ap not p ∙ sym (unknown_fits t r a b d (sym e ∙ eqb-true n 0 p)))
    (λ (p : eqb n 0 ≡ false). ap not p ∙ sym (inner_zero t r a (λ q. eqb-false n 0 p (e ∙ q))))
    (either (eqb n 0))

pub returns-then-level-ne0 : goal.returns-then-level-ne0
returns-then-level-ne0 c =
    let zero : threshold c.args.t.now c.args.r ≡ 0 = sym c.threshold.ensures.0 ∙ c.if-threshold-ne0.false in
    sym (deep-zero c.args.t.now c.args.r zero (λ e. omega (arith, c.if-level-ne0.true, c.level.ensures.0)))

pub returns-then-members-ne0 : goal.returns-then-members-ne0
returns-then-members-ne0 c =
    let zero : threshold c.args.t.now c.args.r ≡ 0 = sym c.threshold.ensures.0 ∙ c.if-threshold-ne0.false in
    sym (members-zero c.args.t.now c.args.r zero (λ e. omega (arith, c.if-members-ne0.true, c.members.ensures.0)))

pub returns : goal.returns
unfolding records
returns c =
    let zero : threshold c.args.t.now c.args.r ≡ 0 = sym c.threshold.ensures.0 ∙ c.if-threshold-ne0.false in
    let t = c.args.t.now in
    let r = c.args.r in
    let head : level t r ≡ 0 = omega (arith, c.if-level-ne0.false, c.level.ensures.0) in
    let alone : members t r ≡ 0 = omega (arith, c.if-members-ne0.false, c.members.ensures.0) in
    let inner : c.inner_sets.result ≡ length (inner_sets t r) = c.inner_sets.ensures.0 ∙ sym (head_inner t r head (omega (arith, c.requires))) in
    by_inner t r zero head alone c.inner_sets.result inner
