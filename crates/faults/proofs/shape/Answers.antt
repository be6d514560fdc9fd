-- The tests are made in the order of their numbers, so at each return those before have failed. A record that meets none opens a
-- node exactly where it is at level 0.
use mathlib.Core.Path.{◌≡◌, sym, ◌∙◌}
use mathlib.Core.Bool.{Bool, true, false}
use mathlib.Core.List.{List}
use mathlib.Core.Logic.{◌⊎◌, ⊎_elim}
use Prim.Native.Nat.{ℕ, ◌+◌, ◌≤◌, ◌<◌}
use native.Mathlib.Omega.{arith}
use Rattle.meanings.specs.Table.{control, level}
use Rattle.meanings.specs.Faults.{fault_if, shape_fault, no_threshold}
use Rattle.tables.specs.Heads.{heads_before}
use Rattle.tables.proofs.Heads.{head_step, inner_step, before-le}
use Rattle.faults.specs.Walk.{highest}
use Rattle.faults.proofs.Laws.{told, meets_2, meets_3, meets_4, then_5, high_control, fit_control, high_level, fit_level, one_too_many, no_head, room-left}
use Rattle.faults.proofs.shape.Goals as goal

-- what the tests go by is what the record has
record Read (t : List ℕ) (r word high lev found : ℕ) : Type 0 where
  pub control : word ≡ control t r
  pub highest : high ≡ highest t r
  pub level : lev ≡ level t r
  pub nodes : found ≡ heads_before t r

module _ (t : List ℕ) (r : ℕ) where
  -- past the tests for 2 to 4, that for 5 decides
  past_4 : {word high lev found : ℕ} → Read t r word high lev found → word < 1024 → lev ≤ high → ((lev ≡ 0) × ¬ (found ≡ 64)) ⊎ (¬ (lev ≡ 0))
      → (b : Bool) → no_threshold t r ≡ b → shape_fault t r ≡ fault_if b 5 (r + 1)
  past_4 q c l room =
      then_5 t r (fit_control t r (omega (arith, q.control))) (fit_level t r (omega (arith, q.level, q.highest)))
      (⊎_elim (λ w. room-left t r (λ e. w.1 (q.nodes ∙ e))) (λ w. no_head t r (λ e. w (q.level ∙ e))) room)

-- ---- the returns
pub returns-then-control-ge1024 : goal.returns-then-control-ge1024
returns-then-control-ge1024 c =
    let t = c.args.t.now in
    let r = c.args.r in
    told (meets_2 t r (high_control t r (omega (arith, c.if-control-ge1024.true, c.control.ensures))))

pub returns-then-highest-level : goal.returns-then-highest-level
returns-then-highest-level c =
    let t = c.args.t.now in
    let r = c.args.r in
    told (meets_3 t r (fit_control t r (omega (arith, c.if-control-ge1024.false, c.control.ensures)))
    (high_level t r (omega (arith, c.if-highest-level.true, c.highest.ensures, c.level-level.ensures.0))))

pub returns-then-nodes-eq64 : goal.returns-then-nodes-eq64
returns-then-nodes-eq64 c =
    let t = c.args.t.now in
    let r = c.args.r in
    told (meets_4 t r (fit_control t r (omega (arith, c.if-control-ge1024.false, c.control.ensures)))
    (fit_level t r (omega (arith, c.if-highest-level.false, c.highest.ensures, c.level-level.ensures.0)))
    (one_too_many t r (sym c.level-level.ensures.0 ∙ c.if-level-eq0.true) (sym c.requires.1 ∙ c.if-nodes-eq64.true)))

pub returns-then-no_threshold : goal.returns-then-no_threshold
returns-then-no_threshold c =
    let q : Read c.args.t.now c.args.r c.control.result c.highest.result c.level-level.result c.args.nodes =
    record { control = c.control.ensures; highest = c.highest.ensures; level = c.level-level.ensures.0; nodes = c.requires.1 } in
    told (past_4 c.args.t.now c.args.r q c.if-control-ge1024.false c.if-highest-level.false c.else-level-eq0.either true (sym c.no_threshold.ensures ∙ c.if-no_threshold.true))

pub overflow_add-result : goal.overflow_add-result
overflow_add-result c = omega (arith, before-le c.args.t.now c.args.r, c.requires.0, c.requires.1)

pub returns-then-level-eq0-2 : goal.returns-then-level-eq0-2
returns-then-level-eq0-2 c =
    let t = c.args.t.now in
    let r = c.args.r in
    let q : Read t r c.control.result c.highest.result c.level-level.result c.args.nodes =
    record { control = c.control.ensures; highest = c.highest.ensures; level = c.level-level.ensures.0; nodes = c.requires.1 } in
    let h = head_step t r (sym c.level-level.ensures.0 ∙ c.if-level-eq0-2.true) in (
      past_4 t r q c.if-control-ge1024.false c.if-highest-level.false c.else-level-eq0.either false (sym c.no_threshold.ensures ∙ c.if-no_threshold.false),
      omega (arith, c.requires.1),
    )

pub returns : goal.returns
returns c =
    let t = c.args.t.now in
    let r = c.args.r in
    let q : Read t r c.control.result c.highest.result c.level-level.result c.args.nodes =
    record { control = c.control.ensures; highest = c.highest.ensures; level = c.level-level.ensures.0; nodes = c.requires.1 } in (
      past_4 t r q c.if-control-ge1024.false c.if-highest-level.false c.else-level-eq0.either false (sym c.no_threshold.ensures ∙ c.if-no_threshold.false),
      c.requires.1 ∙ sym (inner_step t r (λ e. c.if-level-eq0-2.false (c.level-level.ensures.0 ∙ e))),
    )
