-- The fields are those of the line.
use mathlib.Core.Path.{refl}
use Rattle.fields.specs.Fields.{texts, line_of}
use Rattle.report_lines.specs.Lines.{list_line}
use Rattle.report_lines.proofs.listed.Goals as goal

pub returns : goal.returns
unfolding list_line line_of texts
returns c = record { long = refl; comes = refl }
