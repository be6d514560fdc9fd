-- A record is two words.
use mathlib.Core.Path.{refl}
use Rattle.meanings.specs.Table.{records}
use Rattle.tables.proofs.Table.records.Goals as goal

pub returns : goal.returns
unfolding records
returns c = rw (← c.self.view_is) (record { checked = c.self.invariant.0; reads = refl })
