-- The nodes found are those that the records passed open: a record at level 0 is the head of the node that those before it number.
use mathlib.Core.Path.{◌≡◌}
use lib.ListN.{length}
use Rattle.tables.specs.Heads.{heads_before, HeadsTo}
use Rattle.tables.proofs.Headed.new.Given as goal

abbrev pub invariant-loop-r : goal.invariant-loop-r
invariant-loop-r l = (l.v ≡ heads_before l.table l.r) × (length l.at ≡ 64) × HeadsTo l.table l.at l.v
