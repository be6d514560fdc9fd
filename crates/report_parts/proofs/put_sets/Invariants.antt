-- What is written so far and the lines of the sets that are left are all the lines; each turn writes one set more.
use Prim.Native.Nat.{ℕ}
use mathlib.Core.Path.{◌≡◌}
use mathlib.Core.List.{List, ◌++◌}
use lib.ListN.{drop}
use Rattle.decimal.specs.Bytes.{Written}
use Rattle.words.specs.declared.Word.{Word}
use Rattle.words.specs.Words.{word_text}
use Rattle.report_lines.specs.Lines.{set_lines}
use Rattle.report_parts.proofs.put_sets.Given as goal

pub record Sofar (before : List ℕ) (letter : Word) (sets after : List ℕ) (at i : ℕ) : Type 0 where
  pub text : List ℕ
  pub written : Written text before after at
  pub whole : text ++ set_lines (word_text letter) (drop i sets) ≡ set_lines (word_text letter) sets

abbrev pub invariant-loop-set : goal.invariant-loop-set
invariant-loop-set l = Sofar l.initial.out l.letter l.sets l.out l.at l.set-index
