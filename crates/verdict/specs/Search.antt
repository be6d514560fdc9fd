-- The verdict's search, a visit at a time, and its answer within an allowance.
use Rattle.std.specs.Prelude.{◌≡◌, false, cond, List, ℕ, suc, ◌+◌, ◌/◌, ◌≤◌, leb, Result, Ok, Err}
use Rattle.meanings.specs.Of as of
use Rattle.sets.specs.Sets.{size}
use Rattle.meanings.specs.Table.{nodes, satisfied}
use Rattle.meanings.specs.Trees.{Tree, Pair, Walk, hit, missed, stuck, quorum_tree, over_half, pair_at, walk}
use Rattle.answers.specs.declared.Verdict.{Verdict}
use Rattle.answers.specs.declared.Verdict.TheVariants.{Yes, No}
use Rattle.answers.specs.declared.Refusal.{Refusal}
use Rattle.answers.specs.declared.Refusal.TheVariants.{Spent, Unsplit}
use Rattle.quorum_visits.specs.declared.Visit.{Visit}
use Rattle.quorum_visits.specs.Visits.{Stands, Waiter}
use Rattle.verdict.specs.declared.Question.{Question}
use Rattle.verdict.specs.declared.Step.{Step}
use Rattle.verdict.specs.declared.Step.TheVariants.{Leaf, Pair as PairAt, Split}

-- the tree below the visit (c, r), with d counted out
abbrev pub tree_of : List ℕ → ℕ → ℕ → ℕ → Tree Pair
tree_of t d c r =
    quorum_tree (nodes t) (satisfied t) d (over_half (nodes t) (satisfied t) d) (pair_at (nodes t) (satisfied t) d) (suc (nodes t)) c r

-- what a visit asks of its caller: what it knows from the one above, how many nodes there are at most, and the ground and its half
pub record Visiting (t : List ℕ) (q : Question) (a : Visit) : Type 0 where
  pub stands : Stands t q.d a
  pub small : nodes t ≤ 64
  pub ground_is : q.ground ≡ of.whole_ground t q.d
  pub half_is : q.half ≡ size (nodes t) q.ground / 2

-- what a visit comes to: nothing below it, found or not; or it splits, with those nodes of c that are still due
pub record Splitting (t : List ℕ) (d : ℕ) (a : Visit) (due : ℕ) : Type 0 where
  pub few : over_half (nodes t) (satisfied t) d a.c ≡ false
  pub waiter : Waiter t d a due

abbrev pub Looked : List ℕ → ℕ → Visit → Step → Type 0
Looked t d a Leaf = walk (tree_of t d a.c a.r) ≡ missed 1
Looked t d a (PairAt h) = walk (tree_of t d a.c a.r) ≡ hit (record { first = a.c; second = h }) 1
Looked t d a (Split due) = Splitting t d a due

-- an answer after so many visits, where it comes within the allowance
abbrev pub in_time : ℕ → ℕ → Result Verdict Refusal → Result Verdict Refusal
in_time allowance visits v = cond (leb visits allowance) v (Err (Spent allowance))

abbrev pub within : ℕ → ℕ → Walk Pair → Result Verdict Refusal
within allowance spent (missed k) = in_time allowance (spent + k) (Ok (Yes (spent + k)))
within allowance spent (hit p k) = in_time allowance (spent + k) (Ok (No p.first p.second (spent + k)))
within allowance spent (stuck k) = in_time allowance (spent + k) (Err Unsplit)
