-- The table's faults first, then 8 for the set or the node, each handed on whatever the answer would be; then the answer.
use mathlib.Core.Path.{sym, ap, ◌∙◌}
use Prim.Native.Nat.{◌<◌, ◌≤◌}
use native.Mathlib.Omega.{arith}
use lib.Dec.{ltb}
use borrow.Author.Tests.{lt-ltb, le-ltb}
use Rattle.std.proofs.lemmas.Result.{err_from_is_err_and}
use Rattle.meanings.specs.Table.{nodes}
use Rattle.meanings.specs.Questions.{yes_or_no, blocks_reply}
use Rattle.faults.proofs.Opening.{past_check, set_outside, then_outside, then_answered}
use Rattle.quorums.proofs.Meaning.{says_yes}
use Rattle.quorums.proofs.blocks_node.Goals as goal

pub returns-in_err-table : goal.returns-in_err-table
unfolding blocks_reply
returns-in_err-table c =
    let p = err_from_is_err_and c.from_residual.result c.from_residual.ensures.1 in
    rw (p.1, p.2) (c.in_err-table.ensures _)

pub returns-then-not-inside : goal.returns-then-not-inside
unfolding blocks_reply
returns-then-not-inside c =
    let passed = past_check c.in_ok-table.ensures c.nodes.ensures in
    set_outside passed c.args.set (sym c.if-not-inside.true ∙ c.inside.ensures) _

pub returns-then-nodes-node : goal.returns-then-nodes-node
unfolding blocks_reply
returns-then-nodes-node c =
    let passed = past_check c.in_ok-table.ensures c.nodes.ensures in
    let n = nodes c.args.table.now in
    let again = past_check c.in_ok-table.ensures c.nodes-2.ensures in
    let over : n ≤ c.args.node = omega (arith, again.nodes_are, c.if-nodes-node.true) in
    then_outside passed c.args.set (sym c.if-not-inside.false ∙ c.inside.ensures) (ltb c.args.node n) (le-ltb c.args.node n over) _

pub returns : goal.returns
unfolding blocks_reply
returns c =
    let passed = past_check c.in_ok-table.ensures c.nodes.ensures in
    let n = nodes c.args.table.now in
    let again = past_check c.in_ok-table.ensures c.nodes-2.ensures in
    let under : c.args.node < n = omega (arith, again.nodes_are, c.if-nodes-node.false) in
    says_yes c.blocked.result
    ∙ ap yes_or_no (rw c.in_ok-table.ensures.0 at c.blocked.ensures)
    ∙ then_answered passed c.args.set (sym c.if-not-inside.false ∙ c.inside.ensures) (ltb c.args.node n) (lt-ltb c.args.node n under) _
