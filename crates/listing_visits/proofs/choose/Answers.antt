-- No node, or the lowest.
use mathlib.Core.Path.{sym, ap, ◌∙◌}
use mathlib.Core.Bool.{Bool, cond}
use Prim.Native.Nat.{ℕ}
use borrow.Author.Tests.{eq-eqb, ne_eqb}
use Rattle.sets.specs.Sets.{lowest}
use Rattle.listing_visits.specs.declared.Step.TheVariants.{Stuck, Split}
use Rattle.listing_visits.proofs.choose.Goals as goal

pub returns-then-on-eq0 : goal.returns-then-on-eq0
returns-then-on-eq0 c =
    sym (ap (λ (b : Bool). cond b Stuck (Split (lowest 64 c.args.on) c.args.due)) (eq-eqb c.args.on 0 c.if-on-eq0.true))

pub returns : goal.returns
returns c =
    ap (λ (x : ℕ). Split x c.args.due) c.first.ensures.0
    ∙ sym (ap (λ (b : Bool). cond b Stuck (Split (lowest 64 c.args.on) c.args.due)) (ne_eqb c.args.on 0 c.if-on-eq0.false))
