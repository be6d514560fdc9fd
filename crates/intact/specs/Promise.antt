-- What is promised of an intact question, for any list of words, any ill set and any allowance.
use Rattle.std.specs.Prelude.{◌≡◌, true, false, List, ℕ, Result, Ok, Err}
use Rattle.meanings.specs.Of as of
use Rattle.sets.specs.Sets.{nobody}
use Rattle.meanings.specs.Questions.{intact_reply}
use Rattle.answers.specs.Said.{intact_says}
use Rattle.answers.specs.declared.Intact.{Intact}
use Rattle.answers.specs.declared.Refusal.{Refusal}
use Rattle.answers.specs.declared.Refusal.TheVariants.{Divided}

pub record IntactPromise (t : List ℕ) (ill allowance : ℕ) (r : Result Intact Refusal) : Type 0 where
  -- the number and its values, visits included
  pub told : intact_says r ≡ intact_reply t ill allowance
  -- an answer is exactly the nodes that some DSet around the ill set leaves out, of a system whose plain quorums all intersect
  pub means : (q k : ℕ) → r ≡ Ok (record { set = q; visits = k }) → (q ≡ of.intact_nodes t ill) × (of.intersecting t nobody ≡ true)
  -- 11 hands over two plain quorums with no node in common
  pub divided_means : (p q k : ℕ) → r ≡ Err (Divided p q k)
      → (of.disjoint_quorums t nobody p q ≡ true) × (of.intersecting t nobody ≡ false)
