-- The tree that is walked is the tree of the blocking sets.
use Rattle.meanings.specs.Questions.{blocking_reply}
use Rattle.meanings.specs.Trees.{blocking_tree}
use mathlib.Core.Path.{subst}
use mathlib.Core.List.{List}
use Prim.Native.Nat.{ℕ}
use lib.ListN.{length}
use Rattle.meanings.specs.Replies.{Lent}
use Rattle.answers.specs.Said.{listed_says}
use Rattle.lists.proofs.Means.{blocking-put}
use Rattle.lists.proofs.blocking_sets.Goals as goal

pub returns : goal.returns
unfolding blocking_reply blocking_tree
returns c =
    subst
    (λ (l : List ℕ). Lent (listed_says c.answer.result) (blocking_reply c.args.table.now c.args.allowance (length c.args.sets.now)) l c.args.sets.now c.answer.new.lent)
    (blocking-put c.args.table.now)
    c.answer.ensures
