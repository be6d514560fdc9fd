-- What the verdict promises, for any list of words, any set counted out and any allowance.
use Rattle.std.specs.Prelude.{◌≡◌, true, false, List, ℕ, Result, Ok}
use Rattle.meanings.specs.Of as of
use Rattle.meanings.specs.Questions.{verdict_reply}
use Rattle.answers.specs.Said.{verdict_says}
use Rattle.answers.specs.declared.Refusal.{Refusal}
use Rattle.answers.specs.declared.Verdict.{Verdict}
use Rattle.answers.specs.declared.Verdict.TheVariants.{Yes, No}

pub record VerdictPromise (t : List ℕ) (d allowance : ℕ) (r : Result Verdict Refusal) : Type 0 where
  -- the number and its values, visits included
  pub told : verdict_says r ≡ verdict_reply t d allowance
  -- yes is said only where every two quorums of the rest share a node
  pub yes_means : (k : ℕ) → r ≡ Ok (Yes k) → of.intersecting t d ≡ true
  -- no hands over two quorums of the rest with no node in common
  pub no_means : (p q k : ℕ) → r ≡ Ok (No p q k)
      → (of.disjoint_quorums t d p q ≡ true) × (of.intersecting t d ≡ false)
