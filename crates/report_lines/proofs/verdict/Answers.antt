-- The fields are those of the line.
use mathlib.Core.Path.{refl}
use Rattle.fields.specs.Fields.{texts, line_of}
use Rattle.report_lines.specs.Lines.{verdict_line}
use Rattle.report_lines.proofs.verdict.Goals as goal

pub returns : goal.returns
unfolding verdict_line line_of texts
returns c = record { long = refl; comes = rw c.answer.ensures }
