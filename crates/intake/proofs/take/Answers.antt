-- What the lines came to is that of a sheet, with nothing behind it.
use native.Mathlib.Omega.{arith}
use Rattle.intake.proofs.Laws.{reaches, was_read}
use Rattle.intake.proofs.take.Goals as goal

pub judged-requires : goal.judged-requires
judged-requires g c = reaches _ _ _ c.in_ok-heard.ensures

pub returns : goal.returns
returns g c = was_read _ _ _ c.in_ok-heard.ensures (omega arith) _ c.judged.ensures
