-- The window grows by what is read; its first line is taken, and it begins behind that.
use Prim.Native.Nat.{◌-◌, ◌*◌, ◌≤◌}
use mathlib.Core.Path.{◌≡◌}
use lib.ListN.{length, take}
use Rattle.intake.specs.Intake.{UpTo}
use Rattle.intake.proofs.hear.Given as goal

abbrev pub invariant-loop-window : goal.invariant-loop-window
invariant-loop-window g l = record {
  whole : length l.buf ≡ 512;
  held : l.window.count ≤ 512;
  few : l.r ≤ 256;
  read : l.bytes ≤ 512 * l.r;
  taken : UpTo l.words (take l.window.count l.buf) l.r l.nought;
}

abbrev pub decreases-loop-window : goal.decreases-loop-window
decreases-loop-window g l = 256 - l.r
