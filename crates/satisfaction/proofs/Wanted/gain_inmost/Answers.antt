-- One that was wanted at the last level has come.
use mathlib.Core.Path.{◌∙◌}
use Rattle.satisfaction.proofs.Walk.{inmost_last, inmost_next}
use Rattle.satisfaction.proofs.Wanted.gain_inmost.Goals as goal

pub returns-then-self-eq1 : goal.returns-then-self-eq1
returns-then-self-eq1 c =
    let w = c.args.self in
    λ n3 n2 n1.
    c.gain.ensures n3 n2 n1 ∙ inmost_last w.outer w.inner w.inmost n3 n2 n1 c.if-self-eq1.true

pub returns : goal.returns
returns c =
    let w = c.args.self in
    λ n3 n2 n1.
    inmost_next w.outer w.inner w.inmost n3 n2 n1 c.requires.2 c.if-self-eq1.false
