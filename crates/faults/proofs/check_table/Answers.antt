-- Where no line has a written 0, the check is that of the table.
use mathlib.Core.Path.{ap, ◌∙◌}
use Rattle.meanings.specs.Table.{records, nodes}
use Rattle.meanings.specs.Faults.{Check}
use Rattle.meanings.specs.Questions.{on_check, check_reply}
use Rattle.tables.proofs.Sound.{lines_zero}
use Rattle.faults.specs.Walk.{counted}
use Rattle.faults.proofs.check_table.Goals as goal

pub returns : goal.returns
unfolding check_reply
returns c =
    let t = c.args.table.now in
    c.check_lines.ensures ∙ ap (λ (x : Check). on_check x (counted (nodes t) (records t))) (lines_zero t)
