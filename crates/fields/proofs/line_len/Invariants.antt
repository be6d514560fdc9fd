-- What is counted and what is still to be counted make the length of the line.
use Prim.Native.Nat.{ℕ, ◌+◌, ◌*◌, ◌≤◌}
use mathlib.Core.Path.{◌≡◌}
use mathlib.Core.List.{List}
use lib.ListN.{length, drop}
use Rattle.fields.specs.declared.Field.{Field}
use Rattle.fields.specs.Fields.{line_of}
use Rattle.fields.proofs.line_len.Given as goal

pub record Sofar (fields : List Field) (len i : ℕ) : Type 0 where
  pub counted : len + length (line_of (drop i fields)) ≡ length (line_of fields)
  pub within : len ≤ 182 * i

abbrev pub invariant-loop-field : goal.invariant-loop-field
invariant-loop-field l = Sofar l.fields l.len l.field-index
