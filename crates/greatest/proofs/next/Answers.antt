-- The lowest of those who are due and must stay, or the lowest of those who are due, is due.
use native.Mathlib.Omega.{arith}
use mathlib.Core.Path.{◌≡◌, sym, subst}
use Prim.Native.Nat.{ℕ, ◌<◌, ◌^◌}
use Rattle.sets.specs.Sets.{nobody, ◌∩◌, lowest}
use Rattle.sets.proofs.Members.{In, has_below, ∩_out, ∩-lt}
use Rattle.sets.proofs.Lowest.{lowest_in}
use Rattle.greatest.proofs.next.Goals as goal

found : (m i : ℕ) → m < 2 ^ 64 → ¬ (m ≡ nobody) → i ≡ lowest 64 m → In m i × (i < 64)
found m i h z e =
    let p = subst (In m) (sym e) (lowest_in 64 m h z) in
    (p, has_below 64 m i h p)

pub returns-then-urgent-ne0 : goal.returns-then-urgent-ne0
returns-then-urgent-ne0 c =
    let l = c.ranges.due in
    let f = found (c.args.due ∩ c.args.must) c.first.result (∩-lt 64 c.args.due c.args.must (omega arith)) c.if-urgent-ne0.true c.first.ensures.0 in
    ((∩_out c.args.due c.args.must c.first.result f.0).0, f.1)

pub returns : goal.returns
returns c =
    let l = c.ranges.due in
    found c.args.due c.first-2.result (omega arith) c.requires c.first-2.ensures.0
