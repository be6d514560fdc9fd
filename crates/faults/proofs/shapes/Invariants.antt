-- Up to the record that is reached nothing is wrong, so the first fault from there on is the first of all; and the nodes counted
-- are those that the records before it open.
use mathlib.Core.Path.{◌≡◌}
use Rattle.meanings.specs.Table.{records}
use Rattle.meanings.specs.Faults.{line_fault}
use Rattle.tables.specs.Heads.{heads_before}
use Rattle.faults.specs.Walk.{lines_from}
use Rattle.faults.proofs.Laws.{faults_from}
use Rattle.faults.proofs.shapes.Given as goal

abbrev pub invariant-loop-r : goal.invariant-loop-r
invariant-loop-r l = (l.nodes ≡ heads_before l.t l.r) × (lines_from l.nought l.t 0 (records l.t) ≡ faults_from (line_fault l.nought l.t) l.t l.r)
