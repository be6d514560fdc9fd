-- The greatest quorum without the chosen nodes is a word, so its nodes lie below 64.
use mathlib.Core.Path.{◌≡◌, sym, ap₂, ◌∙◌, subst}
use Prim.Native.Nat.{ℕ, ◌^◌, ◌<◌}
use Rattle.sets.specs.Sets.{◌∖◌}
use Rattle.sets.proofs.Members.{In, has_below}
use Rattle.quorum_visits.proofs.others.Goals as goal

one_below : (on word v : ℕ) → word ≡ on → word < 2 ^ 64 → In on v → v < 64
one_below on word v e h p = has_below 64 word v h (subst (λ (x : ℕ). In x v) (sym e) p)

pub one-requires : goal.one-requires
one-requires c = one_below _ c.without.result c.args.v c.without.ensures c.without.type_inv c.requires

pub returns : goal.returns
returns c = (
  c.without-2.ensures ∙ ap₂ (λ (x y : ℕ). x ∖ y) c.without.ensures c.one.ensures,
  one_below _ c.without.result c.args.v c.without.ensures c.without.type_inv c.requires,
)
