use mathlib.Core.Path.{ap, ◌∙◌}
use Prim.Native.Nat.{ℕ, ◌+◌}
use Rattle.faults.proofs.Laws.{highest_first, highest_next}
use Rattle.faults.proofs.highest.Goals as goal

pub returns-then-r-eq0 : goal.returns-then-r-eq0
returns-then-r-eq0 c = highest_first c.args.t.now c.args.r c.if-r-eq0.true

pub returns : goal.returns
returns c =
    ap (λ (n : ℕ). n + 1) c.level.ensures.0 ∙ highest_next c.args.t.now c.args.r c.if-r-eq0.false
