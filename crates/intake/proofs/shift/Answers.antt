-- The bytes from `used` to the end of those in hand stand at the front.
use Rattle.intake.proofs.Laws.{to_front}
use Rattle.intake.proofs.shift.Goals as goal

pub returns : goal.returns
returns c =
    let a = c.args in
    (to_front a.buf.now c.copy_within.new.self a.used a.len c.requires.0 c.requires.1 c.copy_within.ensures.after, c.copy_within.ensures.len)
