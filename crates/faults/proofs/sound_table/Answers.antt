-- What the check's answer tells: the words are sound and have so many nodes, or the fault is that of any question about them.
use Rattle.std.proofs.lemmas.Result.{err_from_is_err_and}
use Rattle.faults.proofs.Known.{sound_known, fault_known}
use Rattle.faults.proofs.sound_table.Goals as goal

pub returns-in_err-nodes : goal.returns-in_err-nodes
returns-in_err-nodes c =
    let p = err_from_is_err_and c.from_residual.result c.from_residual.ensures.1 in
    rw (p.1, p.2) (fault_known c.args.words.now c.in_err-nodes.field-0.0 c.in_err-nodes.ensures)

pub new-requires : goal.new-requires
new-requires c = let p = sound_known c.args.words.now c.in_ok-nodes.field-0 c.in_ok-nodes.ensures in (p.0, p.1)
