-- The set counts at once, or is the one that waits for its inner sets from here on.
use native.Mathlib.Omega.{arith}
use mathlib.Core.Path.{◌∙◌}
use Rattle.satisfaction.proofs.Walk.{enter_met, enter_short}
use Rattle.satisfaction.proofs.Wanted.enter.Goals as goal

pub returns-then-short-eq0 : goal.returns-then-short-eq0
returns-then-short-eq0 c =
    let w = c.args.self in
    λ n3 n2 n1.
    c.counted.ensures n3 n2 n1 ∙ enter_met w.outer c.args.short n2 n1 c.if-short-eq0.true

pub returns : goal.returns
returns c =
    let w = c.args.self in
    λ n3 n2 n1.
    enter_short w.outer c.args.short n3 n2 n1 (omega (arith, c.if-short-eq0.false))
