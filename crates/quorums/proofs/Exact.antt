-- The contracts leave no choice: what an answer says is given, and no two answers say the same.
use mathlib.Core.Path.{◌≡◌, sym, ◌∙◌}
use mathlib.Core.Bool.{Bool}
use mathlib.Core.List.{List}
use Prim.Native.Nat.{ℕ}
use Rattle.std.specs.Prelude.{Result}
use Rattle.meanings.specs.Questions.{quorum_reply, greatest_reply, blocks_reply}
use Rattle.answers.specs.declared.Refusal.{Refusal}
use Rattle.answers.specs.declared.Greatest.{Greatest}
use Rattle.answers.specs.Said.{judged_says, greatest_says}
use Rattle.answers.proofs.Exact.{judged_exact, greatest_exact}

module _ (t : List ℕ) where
  pub is_quorum_exact : (d u : ℕ) (x y : Result Bool Refusal) → judged_says x ≡ quorum_reply t d u → judged_says y ≡ quorum_reply t d u → x ≡ y
  is_quorum_exact d u x y p q = judged_exact x y (p ∙ sym q)

  pub greatest_quorum_exact : (d u : ℕ) (x y : Result Greatest Refusal) → greatest_says x ≡ greatest_reply t d u → greatest_says y ≡ greatest_reply t d u → x ≡ y
  greatest_quorum_exact d u x y p q = greatest_exact x y (p ∙ sym q)

  pub blocks_node_exact : (b v : ℕ) (x y : Result Bool Refusal) → judged_says x ≡ blocks_reply t b v → judged_says y ≡ blocks_reply t b v → x ≡ y
  blocks_node_exact b v x y p q = judged_exact x y (p ∙ sym q)
