-- Members that are enough leave nothing wanting.
use native.Mathlib.Omega.{arith}
use mathlib.Core.Path.{◌≡◌, ap, ◌∙◌}
use Prim.Native.Nat.{ℕ, ◌+◌, ◌<◌, ◌≤◌}
use borrow.Author.Tests.{le-leb, leb-true}
use Rattle.sets.specs.Sets.{size, ◌∩◌}
use Rattle.meanings.specs.Table.{members, threshold, level}
use Rattle.satisfaction.specs.Judged.{lack, still}
use Rattle.satisfaction.proofs.Laws.{judged_walk}
use Rattle.satisfaction.proofs.enough.Goals as goal

pub returns-then-need-gt3 : goal.returns-then-need-gt3
returns-then-need-gt3 c =
    let t = c.args.t.now in
    let u = c.args.u in
    let r = c.args.r in
    let need = c.threshold-need in
    λ e.
    let count : c.count.result ≡ size 64 (members t r ∩ u) = c.count.ensures.0 ∙ ap (λ (m : ℕ). size 64 (m ∩ u)) c.members.ensures.reads in
    let all : need.result ≤ c.count.result = leb-true need.result c.count.result e in
    let none : lack t u r ≡ 0 = omega (arith, need.ensures.reads.0) in
    let some : 0 < threshold t r = omega (arith, need.ensures.reads.0, c.if-need-gt3.true) in
    judged_walk t need.ensures.checked u r c.requires some ∙ le-leb (lack t u r) (still t u (level t r) (r + 1)) (omega arith)
