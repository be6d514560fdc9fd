-- The writers walk over a set from its lowest bit on. What is left of the set after i bits fits the 64 - i bits that are left, so that after
-- 64 of them nothing is left.
use Prim.Native.Nat.{ℕ, suc, ◌+◌, ◌-◌, ◌/◌, ◌^◌, ◌≤◌, ◌<◌}
use native.Mathlib.Omega.{arith}
use mathlib.Core.Path.{◌≡◌, ap, sym, ◌∙◌}
use mathlib.Core.List.{List, [], ◌++◌}
use mathlib.Core.Logic.{⊎_elim}
use lib.ListN.{length, length-append}
use Rattle.decimal.proofs.Order.{lt-or-le}
use Rattle.members.specs.Members.{nodes_from, with_commas, member_text}
use Rattle.members.specs.Steps.{id_text}
use Rattle.members.proofs.Nodes.{half, nodes-none}
use Rattle.members.proofs.Written.{ids_step, text_some}

-- the text of what is left
unfoldable pub ids_left : ℕ → ℕ → List ℕ
ids_left i q = with_commas (nodes_from (64 - i) i q)

one_less : (i : ℕ) → i < 64 → 64 - i ≡ suc (64 - (i + 1))
one_less i h = omega arith

module _ (i q : ℕ) (w : q < 2 ^ (64 - i)) (b : i < 64) where
  pub left_fits : q / 2 < 2 ^ (64 - (i + 1))
  left_fits = half (64 - (i + 1)) q (rw (one_less i b) at w)

  pub left_split : ids_left i q ≡ id_text i q ++ ids_left (i + 1) (q / 2)
  unfolding ids_left
  left_split = rw (one_less i b) (ids_step (64 - (i + 1)) i q (rw (one_less i b) at w))

  pub left_step : length (ids_left i q) ≡ length (id_text i q) + length (ids_left (i + 1) (q / 2))
  left_step = ap length left_split ∙ length-append (id_text i q) (ids_left (i + 1) (q / 2))

pub left_nothing : (i q : ℕ) → q ≡ 0 → ids_left i q ≡ []
unfolding ids_left with_commas
left_nothing i q e = rw (e, nodes-none (64 - i) i)

-- after 64 bits nothing is left
pub left_end : (i q : ℕ) → 64 ≤ i → q < 2 ^ (64 - i) → q ≡ 0
left_end i q h w = let e : 64 - i ≡ 0 = omega arith in let g : q < 2 ^ 0 = rw e at w in omega arith

-- so while some node is left, i is one of the 64
pub below_64 : (i q : ℕ) → q < 2 ^ (64 - i) → 0 < q → i < 64
below_64 i q w h = ⊎_elim (λ p. p) (λ p. let e = left_end i q p w in absurd (omega arith)) (lt-or-le i 64)

-- at the start all of the set is left
pub left-all : (m : ℕ) → (m ≡ 0 → ⊥) → ids_left 0 m ≡ member_text m
unfolding ids_left
left-all m n = sym (text_some m n)
