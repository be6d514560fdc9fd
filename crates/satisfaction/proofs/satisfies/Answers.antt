-- Nothing is wanting, and some member is in u or none is; or there is nothing else to count; or the inner sets are walked.
use native.Mathlib.Omega.{arith}
use mathlib.Core.Path.{◌≡◌, sym, ◌∙◌}
use Prim.Native.Nat.{◌<◌}
use Rattle.meanings.specs.Table.{threshold}
use Rattle.satisfaction.specs.Judged.{lack}
use Rattle.satisfaction.proofs.Laws.{judged_walk, judged_flat, judged_members}
use Rattle.satisfaction.proofs.satisfies.Goals as goal

pub returns-then-wanted-eq0 : goal.returns-then-wanted-eq0
returns-then-wanted-eq0 c =
    let t = c.args.t.now in
    let u = c.args.u in
    rw c.members.ensures.reads
    (judged_members t c.members.ensures.checked u c.args.r c.requires (sym c.lacking-wanted.ensures.reads ∙ c.if-wanted-eq0.true))

pub returns-then-deeper : goal.returns-then-deeper
returns-then-deeper c =
    let t = c.args.t.now in
    let u = c.args.u in
    let r = c.args.r in
    let known : 0 < threshold t r = omega (arith, c.lacking-wanted.ensures.reads, c.if-wanted-eq0.false) in
    (rw c.lacking-wanted.ensures.reads at c.inner_enough.ensures) ∙ sym (judged_walk t c.lacking-wanted.ensures.checked u r c.requires known)

pub returns-else-deeper : goal.returns-else-deeper
returns-else-deeper c =
    let t = c.args.t.now in
    let u = c.args.u in
    let r = c.args.r in
    let some : 0 < lack t u r = omega (arith, c.lacking-wanted.ensures.reads, c.if-wanted-eq0.false) in
    c.if-deeper.false ∙ sym (judged_flat t c.lacking-wanted.ensures.checked u r c.requires (c.deeper.ensures u c.if-deeper.false) (λ (z : lack t u r ≡ 0). absurd (omega arith)))
