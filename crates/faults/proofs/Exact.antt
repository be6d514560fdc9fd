-- The contract leaves no choice: what an answer says is given, and no two answers say the same.
use mathlib.Core.Path.{◌≡◌, sym, ◌∙◌}
use mathlib.Core.List.{List}
use Prim.Native.Nat.{ℕ}
use Rattle.std.specs.Prelude.{Result}
use Rattle.meanings.specs.Questions.{check_reply}
use Rattle.answers.specs.declared.Fault.{Fault}
use Rattle.answers.specs.declared.Size.{Size}
use Rattle.answers.specs.Said.{checked_says}
use Rattle.answers.proofs.Exact.{checked_exact}

pub check_table_exact : (t : List ℕ) (x y : Result Size Fault) → checked_says x ≡ check_reply t → checked_says y ≡ check_reply t → x ≡ y
check_table_exact t x y p q = checked_exact x y (p ∙ sym q)
