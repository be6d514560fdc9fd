-- One that was wanted has come.
use mathlib.Core.Path.{◌∙◌}
use Rattle.satisfaction.proofs.Walk.{gain_last, gain_next}
use Rattle.satisfaction.proofs.Wanted.gain.Goals as goal

pub returns-then-self-eq1 : goal.returns-then-self-eq1
returns-then-self-eq1 c =
    let w = c.args.self in
    λ n3 n2 n1.
    c.counted.ensures n3 n2 n1 ∙ gain_last w.outer w.inner n2 n1 c.if-self-eq1.true

pub returns : goal.returns
returns c =
    let w = c.args.self in
    λ n3 n2 n1.
    gain_next w.outer w.inner n3 n2 n1 c.requires.1 c.if-self-eq1.false
