-- The tree that is walked is the tree of the minimal quorums.
use Rattle.meanings.specs.Questions.{minimal_reply}
use Rattle.meanings.specs.Trees.{minimal_tree}
use mathlib.Core.Path.{subst}
use mathlib.Core.List.{List}
use Prim.Native.Nat.{ℕ}
use lib.ListN.{length}
use Rattle.meanings.specs.Replies.{Lent}
use Rattle.answers.specs.Said.{listed_says}
use Rattle.lists.proofs.Means.{minimal-put}
use Rattle.lists.proofs.minimal_quorums.Goals as goal

pub returns : goal.returns
unfolding minimal_reply minimal_tree
returns c =
    subst
    (λ (l : List ℕ). Lent (listed_says c.answer.result) (minimal_reply c.args.table.now c.args.allowance (length c.args.sets.now)) l c.args.sets.now c.answer.new.lent)
    (minimal-put c.args.table.now)
    c.answer.ensures
