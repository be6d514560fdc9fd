-- The intact rounds, one at a time, and their answer within an allowance.
use Rattle.std.specs.Prelude.{◌≡◌, cond, List, ℕ, suc, ◌+◌, ◌^◌, ◌<◌, leb, Result, Ok, Err}
use Rattle.std.specs.declared.ops.ControlFlow.{ControlFlow}
use Rattle.std.specs.declared.ops.ControlFlow.TheVariants.{Break, Continue}
use Rattle.sets.specs.Sets.{size}
use Rattle.meanings.specs.Table.{nodes, satisfied}
use Rattle.meanings.specs.Intact.{Ended, intact_are, divided, stuck_after, rounds_from}
use Rattle.answers.specs.declared.Refusal.{Refusal}
use Rattle.answers.specs.declared.Refusal.TheVariants as Xx
use Rattle.answers.specs.declared.Intact.{Intact}
use Rattle.intact.specs.declared.Left.{Left}

-- an answer after so many visits, where it comes within the allowance
abbrev pub in_time : ℕ → ℕ → Result Intact Refusal → Result Intact Refusal
in_time allowance visits x = cond (leb visits allowance) x (Err (Xx.Spent allowance))

abbrev pub within : ℕ → ℕ → Ended → Result Intact Refusal
within allowance spent (intact_are q k) = in_time allowance (spent + k) (Ok (record { set = q; visits = spent + k }))
within allowance spent (divided p k) = in_time allowance (spent + k) (Err (Xx.Divided p.first p.second (spent + k)))
within allowance spent (stuck_after k) = in_time allowance (spent + k) (Err Xx.Unsplit)

-- the rounds of a table from u on
abbrev pub rounds_of : List ℕ → ℕ → Ended
rounds_of t u = rounds_from (nodes t) (satisfied t) (suc (nodes t)) u

-- what a round comes to: the answer of all rounds; or fewer nodes, from which the rounds answer the same after the visits so far
pub record Sequel (t : List ℕ) (allowance : ℕ) (left rest : Left) : Type 0 where
  pub inside : rest.set < 2 ^ nodes t
  pub fewer : size (nodes t) rest.set < size (nodes t) left.set
  pub same : within allowance rest.visits (rounds_of t rest.set) ≡ within allowance left.visits (rounds_of t left.set)

abbrev pub Turned : List ℕ → ℕ → Left → Result (ControlFlow Intact Left) Refusal → Type 0
Turned t allowance left (Ok (Break x)) = Ok x ≡ within allowance left.visits (rounds_of t left.set)
Turned t allowance left (Ok (Continue rest)) = Sequel t allowance left rest
Turned t allowance left (Err e) = Err e ≡ within allowance left.visits (rounds_of t left.set)
