-- A fault of a table, as the refusal of a question.
use Rattle.answers.specs.declared.Fault.{Fault}
use Rattle.answers.specs.declared.Refusal.{Refusal}
use Rattle.answers.specs.declared.Refusal.TheVariants as Xx

abbrev pub bad : Fault → Refusal
bad fault = Xx.Bad fault
