-- Up to three nodes are told by taking the lowest out, once and again; more are counted.
use native.Mathlib.Omega.{arith}
use mathlib.Core.Path.{◌≡◌, ap, ◌∙◌}
use Prim.Native.Nat.{◌-◌, ◌^◌, ◌<◌, ◌≤◌}
use Rattle.sets.specs.Sets.{size, ◌∩◌}
use Rattle.sets.proofs.Members.{∩-lt}
use Rattle.sets.proofs.Size.{size-nobody}
use Rattle.satisfaction.proofs.Two.{lowest_lost, only_one, two_or_more}
use Rattle.satisfaction.proofs.short_of.Goals as goal

pub returns-then-m-eq0 : goal.returns-then-m-eq0
returns-then-m-eq0 c =
    let none : size 64 c.args.m ≡ 0 = ap (size 64) c.if-m-eq0.true ∙ size-nobody 64 in
    omega arith

pub returns-then-k-le1 : goal.returns-then-k-le1
returns-then-k-le1 c =
    let m = c.args.m in
    let some : 1 ≤ size 64 m = omega (arith, lowest_lost 64 m (omega (arith, c.ranges.m)) (omega (arith, c.if-m-eq0.false))) in
    omega (arith, c.if-k-le1.true)

pub returns-then-others-eq0 : goal.returns-then-others-eq0
returns-then-others-eq0 c =
    let m = c.args.m in
    let one : size 64 m ≡ 1 = only_one m (omega (arith, c.ranges.m)) (omega (arith, c.if-m-eq0.false)) c.if-others-eq0.true in
    omega arith

pub returns-then-k-eq2 : goal.returns-then-k-eq2
returns-then-k-eq2 c =
    let m = c.args.m in
    let two : 2 ≤ size 64 m = two_or_more m (omega (arith, c.ranges.m)) (omega (arith, c.if-m-eq0.false)) c.if-others-eq0.false in
    omega (arith, c.if-k-eq2.true)

pub returns-then-others-eq0-2 : goal.returns-then-others-eq0-2
returns-then-others-eq0-2 c =
    let m = c.args.m in
    let f : m < 2 ^ 64 = omega (arith, c.ranges.m) in
    let all = lowest_lost 64 m f (omega (arith, c.if-m-eq0.false)) in
    let one : size 64 (m ∩ (m - 1)) ≡ 1 = only_one (m ∩ (m - 1)) (∩-lt 64 m (m - 1) f) (omega (arith, c.if-others-eq0.false)) c.if-others-eq0-2.true in
    omega (arith, c.if-k-gt3.false, c.if-k-le1.false, c.if-k-eq2.false)

pub returns : goal.returns
returns c =
    let m = c.args.m in
    let f : m < 2 ^ 64 = omega (arith, c.ranges.m) in
    let all = lowest_lost 64 m f (omega (arith, c.if-m-eq0.false)) in
    let two : 2 ≤ size 64 (m ∩ (m - 1)) = two_or_more (m ∩ (m - 1)) (∩-lt 64 m (m - 1) f) (omega (arith, c.if-others-eq0.false)) c.if-others-eq0-2.false in
    omega (arith, c.if-k-gt3.false)
