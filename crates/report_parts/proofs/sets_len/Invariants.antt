-- What is counted so far and the lines of the sets that are left are as long as all; each turn counts one set more.
use Prim.Native.Nat.{ℕ, ◌+◌, ◌*◌, ◌≤◌}
use mathlib.Core.Path.{◌≡◌}
use mathlib.Core.List.{List}
use lib.ListN.{length, drop}
use Rattle.words.specs.declared.Word.{Word}
use Rattle.words.specs.Words.{word_text}
use Rattle.report_lines.specs.Lines.{set_lines}
use Rattle.report_parts.proofs.sets_len.Given as goal

pub record Sofar (letter : Word) (sets : List ℕ) (total i : ℕ) : Type 0 where
  pub few : length sets ≤ 1024
  pub counted : total + length (set_lines (word_text letter) (drop i sets)) ≡ length (set_lines (word_text letter) sets)
  pub within : total ≤ 1092 * i

abbrev pub invariant-loop-set : goal.invariant-loop-set
invariant-loop-set l = Sofar l.letter l.sets l.total l.set-index
