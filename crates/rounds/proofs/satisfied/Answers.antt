-- What is found of the record that opens the node is found of the node.
use Prim.Native.Nat.{ℕ}
use mathlib.Core.Path.{◌≡◌, sym, ap, ◌∙◌}
use mathlib.Core.List.{List}
use Rattle.meanings.specs.Table.{head_of, satisfies, satisfied}
use Rattle.rounds.proofs.satisfied.Goals as goal

of_node : (t : List ℕ) (with v r : ℕ) → r ≡ head_of t v → satisfies 3 t with r ≡ satisfied t with v
unfolding satisfied
of_node t with v r e = ap (satisfies 3 t with) e

pub enough-requires : goal.enough-requires
enough-requires c = rw c.table-t.ensures.reads c.head-r.ensures.reads.1

pub satisfies-requires : goal.satisfies-requires
satisfies-requires c = rw c.table-t.ensures.reads c.head-r.ensures.reads.1

pub returns-then-enough : goal.returns-then-enough
returns-then-enough c =
    let holds = rw c.table-t.ensures.reads at (c.enough.ensures c.if-enough.true) in
    c.if-enough.true ∙ sym holds ∙ of_node c.args.heads.now c.args.with c.args.v c.head-r.result c.head-r.ensures.reads.0

pub returns-else-enough : goal.returns-else-enough
returns-else-enough c =
    let holds = rw c.table-t.ensures.reads at c.satisfies.ensures in
    holds ∙ of_node c.args.heads.now c.args.with c.args.v c.head-r.result c.head-r.ensures.reads.0
