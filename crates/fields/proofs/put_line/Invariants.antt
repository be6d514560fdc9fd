-- What is written so far and what is still to be written make the line; each turn writes one field more.
use Prim.Native.Nat.{ℕ}
use mathlib.Core.Path.{◌≡◌}
use mathlib.Core.List.{List, ◌++◌}
use lib.ListN.{drop}
use Rattle.decimal.specs.Bytes.{Written}
use Rattle.fields.specs.declared.Field.{Field}
use Rattle.fields.specs.Fields.{line_of}
use Rattle.fields.proofs.put_line.Given as goal

pub record Sofar (before : List ℕ) (fields : List Field) (after : List ℕ) (at i : ℕ) : Type 0 where
  pub text : List ℕ
  pub written : Written text before after at
  pub whole : text ++ line_of (drop i fields) ≡ line_of fields

abbrev pub invariant-loop-i : goal.invariant-loop-i
invariant-loop-i l = Sofar l.initial.out l.fields l.out l.at l.i
