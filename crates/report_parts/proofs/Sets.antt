-- The lines of a list's sets from one set on are that set's line and those from the next on.
use Prim.Native.Nat.{ℕ, ◌+◌, ◌≤◌, ◌<◌}
use native.Mathlib.Numerals.{add-one}
use mathlib.Core.Path.{◌≡◌, ap, ◌∙◌}
use mathlib.Core.List.{List, [], ◌++◌}
use lib.ListN.{length, drop, get_or, length-append, drop_of_length-le}
use lib.Seq.{drop-cons}
use Rattle.report_lines.specs.Lines.{set_line, set_lines}

module _ (letter s : List ℕ) (i : ℕ) where
  pub next_set : i < length s → set_lines letter (drop i s) ≡ set_line letter (get_or s i 0) ++ set_lines letter (drop (i + 1) s)
  unfolding set_lines
  next_set h = rw (add-one i, drop-cons s i 0 h)

  pub length_next : i < length s → length (set_lines letter (drop i s)) ≡ length (set_line letter (get_or s i 0)) + length (set_lines letter (drop (i + 1) s))
  length_next h = ap (length {A = ℕ}) (next_set h) ∙ length-append (set_line letter (get_or s i 0)) (set_lines letter (drop (i + 1) s))

  pub no_set : length s ≤ i → set_lines letter (drop i s) ≡ []
  unfolding set_lines
  no_set h = rw (drop_of_length-le s h)
