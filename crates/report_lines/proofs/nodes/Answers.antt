-- The fields are those of the line.
use mathlib.Core.Path.{refl}
use Rattle.fields.specs.Fields.{texts, line_of}
use Rattle.report_lines.specs.Lines.{nodes_line}
use Rattle.report_lines.proofs.nodes.Goals as goal

pub returns : goal.returns
unfolding nodes_line line_of texts
returns c = record { long = refl; comes = refl }
