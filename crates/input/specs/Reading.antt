-- What can be said of reading: what the system's answer means, and that counts lie within what was lent. Assumes nothing.
use Rattle.std.specs.Prelude.{ℕ, ◌≤◌, ◌<◌, ◌≡◌, List, Result, Ok, Err, IsErrAnd}
use Rattle.std.specs.Io.{ReadsAtMost}
use Rattle.std.specs.IoError.{error_kind}
use Rattle.std.specs.declared.io.Error.{Error}
use Rattle.std.specs.declared.io.ErrorKind.TheVariants as Kind
use Rattle.input.specs.declared.Step.{Step}
use Rattle.input.specs.declared.Step.TheVariants as Sx

-- from which answer and tries left a read comes to a step: a count of 0 is the end, and an error a failure, which a signal may have made
abbrev pub Means : Result Step Error → Result ℕ Error → ℕ → Type 0
Means (Ok (Sx.More count)) answer tries = (0 < count) × (answer ≡ Ok count)
Means (Ok Sx.End) answer tries = answer ≡ Ok 0
Means (Ok Sx.Interrupted) answer tries = (IsErrAnd answer (λ e. error_kind e ≡ Kind.Interrupted)) × (0 < tries)
Means (Err error) answer tries = (answer ≡ Err error) × (error_kind error ≡ Kind.Interrupted → tries ≡ 0)

-- all that was read is counted within the buffer
abbrev pub Within : Result ℕ Error → List ℕ → Type 0
Within r buffer = ReadsAtMost r buffer

-- a read that goes on has taken bytes, no more than there was room for, or one of the tries that were left
abbrev pub Goes : Result Step Error → ℕ → ℕ → Type 0
Goes (Ok (Sx.More count)) room tries = (0 < count) × (count ≤ room)
Goes (Ok Sx.End) room tries = Unit {0}
Goes (Ok Sx.Interrupted) room tries = 0 < tries
Goes (Err error) room tries = Unit {0}
