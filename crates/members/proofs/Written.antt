-- The list of a set is what its lowest node writes and then the list of the rest, which is what the writers go by. Each node writes at most
-- its id and a comma, the last one no comma, and over all 64 nodes that comes to 181 bytes.
use Prim.Native.Nat.{ℕ, zero, suc, ◌+◌, ◌-◌, ◌/◌, ◌%◌, ◌^◌, ◌≤◌, ◌<◌}
use native.Mathlib.Omega.{arith}
use mathlib.Core.Path.{◌≡◌, refl, sym}
use mathlib.Core.Logic.{⊎_elim}
use mathlib.Core.List.{List, [], ◌∷◌, ◌++◌, append_assoc, append-nil}
use borrow.Author.Tests.{eq-eqb, ne_eqb}
use lib.ListN.{length, length-append}
use Rattle.decimal.specs.Decimal.{numeral, digits}
use Rattle.decimal.proofs.Order.{same_or_not}
use Rattle.members.specs.Members.{nodes_from, with_commas, member_text}
use Rattle.members.specs.Steps.{id_text}
use Rattle.members.proofs.Nodes.{bit, half, nodes_in, nodes_out, nodes-none, nodes-some}

-- a comma stands between a node and those that follow
pub commas_more : (i : ℕ) (is : List ℕ) → 0 < length is → with_commas (i ∷ is) ≡ numeral i ++ 44 ∷ with_commas is
unfolding with_commas
commas_more i [] h = absurd (omega arith)
commas_more i (j ∷ is) h = refl

pub id_out : (i q : ℕ) → q % 2 ≡ 0 → id_text i q ≡ []
unfolding id_text
id_out i q e = simp (eq-eqb (q % 2) 0 e)

pub id_last : (i q : ℕ) → (q % 2 ≡ 0 → ⊥) → q / 2 ≡ 0 → id_text i q ≡ numeral i
unfolding id_text
id_last i q n e = simp (ne_eqb (q % 2) 0 n, eq-eqb (q / 2) 0 e)

pub id_more : (i q : ℕ) → (q % 2 ≡ 0 → ⊥) → (q / 2 ≡ 0 → ⊥) → id_text i q ≡ numeral i ++ 44 ∷ []
unfolding id_text
id_more i q n e = simp (ne_eqb (q % 2) 0 n, ne_eqb (q / 2) 0 e)

-- the list of what is left of a set: node i, and then the list of the rest
pub ids_step : (k i q : ℕ) → q < 2 ^ suc k → with_commas (nodes_from (suc k) i q) ≡ id_text i q ++ with_commas (nodes_from k (i + 1) (q / 2))
unfolding with_commas
ids_step k i q h =
    ⊎_elim
    (λ e.
    let n : q % 2 ≡ 0 → ⊥ = λ z. omega arith in
    ⊎_elim
    (λ z. rw (nodes_in k i q e, id_last i q n z, z, nodes-none k (i + 1)) (sym (append-nil (numeral i))))
    (λ z.
    let some : 0 < length (nodes_from k (i + 1) (q / 2)) = nodes-some k (i + 1) (q / 2) (let p : 0 < q / 2 = omega arith in p) (half k q h) in
    rw (nodes_in k i q e, id_more i q n z, commas_more i (nodes_from k (i + 1) (q / 2)) some, append_assoc))
    (same_or_not (q / 2) 0))
    (λ e. rw (nodes_out k i q e, id_out i q e))
    (bit q)

-- the bytes of a list with a comma behind each node, and at most how many they are for the nodes from i to i + k - 1
weight : List ℕ → ℕ
weight [] = 0
weight (i ∷ is) = length (numeral i) + 1 + weight is

most : ℕ → ℕ → ℕ
most zero i = 0
most (suc k) i = length (numeral i) + 1 + most k (i + 1)

length_commas : (is : List ℕ) → length (with_commas is) ≤ weight is - 1
unfolding with_commas weight
length_commas [] = omega arith
length_commas (i ∷ []) = omega arith
length_commas (i ∷ j ∷ is) =
    omega (arith, length-append (numeral i) (44 ∷ with_commas (j ∷ is)), length_commas (j ∷ is))

weight_nodes : (k i m : ℕ) → weight (nodes_from k i m) ≤ most k i
unfolding weight most nodes_from
weight_nodes zero i m = omega arith
weight_nodes (suc k) i m =
    ⊎_elim
    (λ e. rw (nodes_in k i m e) (omega (arith, weight_nodes k (i + 1) (m / 2))))
    (λ e. rw (nodes_out k i m e) (omega (arith, weight_nodes k (i + 1) (m / 2))))
    (bit m)

most_all : most 64 0 ≡ 182
unfolding most numeral digits
most_all = refl

pub length_ids : (m : ℕ) → length (with_commas (nodes_from 64 0 m)) ≤ 181
length_ids m = omega (arith, length_commas (nodes_from 64 0 m), weight_nodes 64 0 m, most_all)

pub text_none : (m : ℕ) → m ≡ 0 → member_text m ≡ 45 ∷ []
unfolding member_text
text_none m e = simp (eq-eqb m 0 e)

pub text_some : (m : ℕ) → (m ≡ 0 → ⊥) → member_text m ≡ with_commas (nodes_from 64 0 m)
unfolding member_text
text_some m n = simp (ne_eqb m 0 n)

-- a member list takes at most 181 bytes
pub length-members : (m : ℕ) → length (member_text m) ≤ 181
length-members m =
    ⊎_elim
    (λ e. rw (text_none m e) (omega arith))
    (λ n. rw (text_some m n) (length_ids m))
    (same_or_not m 0)

-- a node that is in writes its id at least
pub id_in : (i q : ℕ) → (q % 2 ≡ 0 → ⊥) → length (numeral i) ≤ length (id_text i q)
id_in i q n =
    ⊎_elim
    (λ e. rw (id_last i q n e) (omega arith))
    (λ e. rw (id_more i q n e) (omega (arith, length-append (numeral i) (44 ∷ []))))
    (same_or_not (q / 2) 0)

pub length_more : (i q : ℕ) → (q % 2 ≡ 0 → ⊥) → (q / 2 ≡ 0 → ⊥) → length (numeral i) + 1 ≡ length (id_text i q)
length_more i q n e = rw (id_more i q n e) (sym (length-append (numeral i) (44 ∷ [])))
