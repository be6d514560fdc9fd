-- Of each record its members are gathered; then the next are those of what is left.
use mathlib.Core.Path.{◌∙◌}
use native.Mathlib.Omega.{arith}
use Rattle.plans.proofs.Naming.{all_gathered, more_gathered}
use Rattle.plans.proofs.named.Goals as goal

pub loop-record-preserved : goal.loop-record-preserved
loop-record-preserved c =
    let v = c.loop-record.invariant in
    let s = c.in-Some.ensures.steps in
    (s.0 ∙ v.0, more_gathered c.args.set.now _ c.in-Some.record.now _ c.loop-record.all (s.1.1 ∙ v.0) s.1.0 v.1)

pub returns : goal.returns
returns c =
    let v = c.loop-record.invariant in
    let s = c.in-None.ensures.steps in
    all_gathered c.args.set.now c.loop-record.record-iterator.rest.now c.loop-record.all (omega (arith, v.0, s.1.0)) v.1
