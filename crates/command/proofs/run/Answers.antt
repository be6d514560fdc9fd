-- What is reported on is what was taken in.
use Rattle.intake.proofs.Laws.{taken_in}
use Rattle.command.proofs.run.Goals as goal

pub show_read-shown-requires : goal.show_read-shown-requires
show_read-shown-requires g c = taken_in c.take.new.table c.take.result c.in-Ok.read c.take.ensures c.in-Ok.is
