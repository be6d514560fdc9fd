-- The same one level further down.
use native.Mathlib.Omega.{arith}
use mathlib.Core.Path.{◌∙◌}
use Rattle.satisfaction.proofs.Walk.{inner_met, inner_short}
use Rattle.satisfaction.proofs.Wanted.enter_inner.Goals as goal

pub returns-then-short-eq0 : goal.returns-then-short-eq0
returns-then-short-eq0 c =
    let w = c.args.self in
    λ n3 n2 n1.
    c.gain.ensures n3 n2 n1 ∙ inner_met w.outer w.inner c.args.short n3 n2 n1 c.if-short-eq0.true

pub returns : goal.returns
returns c =
    let w = c.args.self in
    λ n3 n2 n1.
    inner_short w.outer w.inner c.args.short n3 n2 n1 (omega (arith, c.if-short-eq0.false))
