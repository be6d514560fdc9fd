-- SPECIFICATION 7: the number and the values of each case of each answer.
use Rattle.std.specs.Prelude.{Bool, true, false, ℕ, [], ◌∷◌, Result, Ok, Err}
use Rattle.meanings.specs.Replies.{Reply, reply, ◌is◌, Place, Nodes, Records, Answer, Set, Rounds, First, Second, Count, Visits}
use Rattle.answers.specs.declared.Fault.{Fault}
use Rattle.answers.specs.declared.Fault.TheVariants as Fx
use Rattle.answers.specs.declared.Refusal.{Refusal}
use Rattle.answers.specs.declared.Refusal.TheVariants as Xx
use Rattle.answers.specs.declared.Size.{Size}
use Rattle.answers.specs.declared.Greatest.{Greatest}
use Rattle.answers.specs.declared.Verdict.{Verdict}
use Rattle.answers.specs.declared.Verdict.TheVariants as Vx
use Rattle.answers.specs.declared.Listed.{Listed}
use Rattle.answers.specs.declared.Intact.{Intact}

-- ---- why a question is not answered: numbers 1 to 7, and 1 to 13
abbrev pub fault_says : Fault → Reply
fault_says (Fx.Count p) = reply 1 (Place is p ∷ [])
fault_says (Fx.Control p) = reply 2 (Place is p ∷ [])
fault_says (Fx.Level p) = reply 3 (Place is p ∷ [])
fault_says (Fx.Nodes p) = reply 4 (Place is p ∷ [])
fault_says (Fx.Threshold p) = reply 5 (Place is p ∷ [])
fault_says (Fx.Member p) = reply 6 (Place is p ∷ [])
fault_says (Fx.Entries p) = reply 7 (Place is p ∷ [])

abbrev pub refusal_says : Refusal → Reply
refusal_says (Xx.Bad f) = fault_says f
refusal_says Xx.Outside = reply 8 []
refusal_says (Xx.Spent visits) = reply 9 (Visits is visits ∷ [])
refusal_says (Xx.Short count) = reply 10 (Count is count ∷ [])
refusal_says (Xx.Divided first second visits) = reply 11 (First is first ∷ Second is second ∷ Visits is visits ∷ [])
refusal_says (Xx.Malformed line) = reply 12 (Place is line ∷ [])
refusal_says Xx.Unsplit = reply 13 []

-- ---- number 0: what is asked for
abbrev pub size_says : Size → Reply
size_says x = reply 0 (Nodes is x.nodes ∷ Records is x.records ∷ [])

-- how many words, or bytes
abbrev pub count_says : ℕ → Reply
count_says count = reply 0 (Count is count ∷ [])

abbrev pub yes_says : Bool → Reply
yes_says true = reply 0 (Answer is 1 ∷ [])
yes_says false = reply 0 (Answer is 0 ∷ [])

abbrev pub set_says : Greatest → Reply
set_says x = reply 0 (Set is x.set ∷ Rounds is x.rounds ∷ [])

abbrev pub decision_says : Verdict → Reply
decision_says (Vx.Yes visits) = reply 0 (Answer is 1 ∷ Visits is visits ∷ [])
decision_says (Vx.No first second visits) = reply 0 (Answer is 0 ∷ First is first ∷ Second is second ∷ Visits is visits ∷ [])

abbrev pub sets_say : Listed → Reply
sets_say x = reply 0 (Count is x.count ∷ Visits is x.visits ∷ [])

abbrev pub well_says : Intact → Reply
well_says x = reply 0 (Set is x.set ∷ Visits is x.visits ∷ [])

-- ---- an answer: either of them
module _ {A E : Type 0} (answer : A → Reply) (refusal : E → Reply) where
  abbrev pub either : Result A E → Reply
  either (Ok x) = answer x
  either (Err e) = refusal e

-- a table is checked
abbrev pub checked_says : Result Size Fault → Reply
checked_says = either size_says fault_says

-- a text is read into a lent list of words
abbrev pub read_says : Result ℕ Refusal → Reply
read_says = either count_says refusal_says

-- a table is written as a text into a lent buffer of bytes
abbrev pub wrote_says : Result ℕ Refusal → Reply
wrote_says = either count_says refusal_says

-- a question answered by yes or no: is this a quorum; does this set block this node
abbrev pub judged_says : Result Bool Refusal → Reply
judged_says = either yes_says refusal_says

abbrev pub greatest_says : Result Greatest Refusal → Reply
greatest_says = either set_says refusal_says

abbrev pub verdict_says : Result Verdict Refusal → Reply
verdict_says = either decision_says refusal_says

-- a list of sets, written to a lent list of words
abbrev pub listed_says : Result Listed Refusal → Reply
listed_says = either sets_say refusal_says

abbrev pub intact_says : Result Intact Refusal → Reply
intact_says = either well_says refusal_says
