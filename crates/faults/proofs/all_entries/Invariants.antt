-- Up to the record that is reached nothing is wrong, so the first fault from there on is the first of all.
use mathlib.Core.Path.{◌≡◌}
use Rattle.meanings.specs.Table.{records}
use Rattle.meanings.specs.Faults.{entry_fault}
use Rattle.faults.specs.Walk.{entries_from}
use Rattle.faults.proofs.Laws.{faults_from}
use Rattle.faults.proofs.all_entries.Given as goal

abbrev pub invariant-loop-r : goal.invariant-loop-r
invariant-loop-r l = entries_from l.t 0 (records l.t) ≡ faults_from (entry_fault l.t) l.t l.r
