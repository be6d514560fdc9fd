-- A node of the set is blocked; of another node the quorum set is judged on all nodes but those of the set.
use mathlib.Core.Path.{◌≡◌, sym, ap, ◌∙◌}
use mathlib.Core.Bool.{false, not}
use Prim.Native.Nat.{ℕ}
use native.Mathlib.Omega.{arith}
use Rattle.sets.specs.Sets.{has, everyone, ◌∖◌}
use Rattle.meanings.specs.Table.{nodes, satisfied}
use Rattle.theory.proofs.Blocks.{itself, by_others}
use Rattle.tables.proofs.Sound.{sound_table}
use Rattle.quorums.proofs.blocked.Goals as goal

pub contains-requires : goal.contains-requires
contains-requires c =
    let few = (sound_table c.args.t.now c.all.ensures.checked).nodes-le in
    omega (arith, c.requires)

pub returns-then-contains : goal.returns-then-contains
returns-then-contains c =
    let t = c.args.t.now in
    sym (itself (nodes t) (satisfied t) c.args.set c.args.v (sym c.contains.ensures ∙ c.if-contains.true))

pub returns : goal.returns
returns c =
    let t = c.args.t.now in
    let held : has c.args.set c.args.v ≡ false = sym c.contains.ensures ∙ c.if-contains.false in
    let others : c.without-others.result ≡ everyone (nodes t) ∖ c.args.set = c.without-others.ensures ∙ ap (λ (m : ℕ). m ∖ c.args.set) c.all.ensures.reads in
    ap not (rw c.new.ensures at c.satisfied.ensures ∙ ap (λ (u : ℕ). satisfied t u c.args.v) others)
    ∙ sym (by_others (nodes t) (satisfied t) c.args.set c.args.v held)
