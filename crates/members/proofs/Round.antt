-- The text of a set is read back as the set, and what is read is the text of a set: a lone hyphen by itself, and any other list by its ids,
-- which rise and are the nodes of their own sum.
use Prim.Native.Nat.{ℕ, ◌^◌, ◌≤◌, ◌<◌}
use native.Mathlib.Omega.{arith}
use native.Mathlib.Nat.{one-mul}
use mathlib.Core.Path.{◌≡◌, refl, ap, sym, ◌∙◌}
use mathlib.Core.Logic.{⊎_elim}
use mathlib.Core.List.{List, [], ◌∷◌, ◌++◌, append_assoc}
use borrow.Author.Tests.{eq-eqb, ne_eqb}
use lib.ListN.{length, get_or, take}
use Rattle.std.proofs.Common.{Some, None}
use Rattle.decimal.specs.Decimal.{numeral, digit_at}
use Rattle.decimal.proofs.Order.{same_or_not}
use Rattle.decimal.proofs.Numeral.{numeral_first}
use Rattle.decimal.proofs.Round.{read_same}
use Rattle.members.specs.Members.{nodes_from, with_commas, member_text, read_ids, read_members}
use Rattle.members.proofs.Nodes.{mask_of, nodes-some, nodes_few, nodes_rise, mask_nodes, nodes_mask, mask_some}
use Rattle.members.proofs.Written.{text_none, text_some}
use Rattle.members.proofs.Back.{ids_back}
use Rattle.members.proofs.Forth.{Ids, ids_forth}

-- a list of ids starts with no hyphen
no_hyphen : (is t : List ℕ) → 0 < length is → get_or (with_commas is ++ t) 0 0 ≡ 45 → ⊥
unfolding with_commas
no_hyphen [] t h e = omega arith
no_hyphen (i ∷ []) t h e = omega (arith, numeral_first i t)
no_hyphen (i ∷ j ∷ is) t h e =
    let f : get_or (numeral i ++ (44 ∷ (with_commas (j ∷ is) ++ t))) 0 0 ≡ 45 = rw append_assoc at e in
    omega (arith, numeral_first i (44 ∷ (with_commas (j ∷ is) ++ t)))

hyphen : (t : List ℕ) → read_members (45 ∷ t) ≡ Some (0, 1)
unfolding read_members
hyphen t = refl

no-list : (s : List ℕ) → (get_or s 0 0 ≡ 45 → ⊥) → read_members s ≡ read_ids 64 s 0
unfolding read_members
no-list s n = simp (ne_eqb (get_or s 0 0) 45 n)

-- what is written is read back, where neither a digit nor a comma follows
pub read_written : (m : ℕ) (t : List ℕ) → m < 2 ^ 64 → digit_at t 0 ≡ None → (get_or t 0 0 ≡ 44 → ⊥)
    → read_members (member_text m ++ t) ≡ Some (m, length (member_text m))
read_written m t h no_digit no_comma =
    ⊎_elim
    (λ e. rw (text_none m e) (hyphen t ∙ ap (λ (x : ℕ). Some (x, 1)) (sym e)))
    (λ n.
    let is = nodes_from 64 0 m in
    let some : 0 < length is = nodes-some 64 0 m (omega arith) h in
    let back = ids_back t no_digit no_comma 64 is 0 (nodes_rise 64 0 m (omega arith)) some (nodes_few 64 0 m) in
    let sum : mask_of is ≡ m = mask_nodes 64 0 m h ∙ one-mul m in
    rw (text_some m n) (no-list (with_commas is ++ t) (no_hyphen is t some) ∙ back ∙ ap (λ (x : ℕ). Some (x, length (with_commas is))) sum))
    (same_or_not m 0)

-- the first k bytes of s are the text of the set m
pub record Reads (s : List ℕ) (m k : ℕ) : Type 0 where
  pub set : m < 2 ^ 64
  pub text : take k s ≡ member_text m
  pub within : k ≤ length s

reads_hyphen : (s : List ℕ) → get_or s 0 0 ≡ 45 → Reads s 0 1
reads_hyphen [] e = absurd (omega arith)
reads_hyphen (x ∷ s) e = record { set = omega arith; text = rw (text_none 0 refl, e); within = omega arith }

some_mask : (is : List ℕ) → 0 < length is → 0 < mask_of is
some_mask [] h = absurd (omega arith)
some_mask (i ∷ is) h = mask_some i is

reads_ids : (s : List ℕ) (m k : ℕ) → Ids s 0 m k → Reads s m k
reads_ids s m k i =
    let p = nodes_mask i.list i.rising in
    let some : m ≡ 0 → ⊥ = λ z. omega (arith, some_mask i.list i.some, i.mask) in
    let own : nodes_from 64 0 m ≡ i.list = ap (λ (x : ℕ). nodes_from 64 0 x) i.mask ∙ p.1 in
    record {
      set = rw i.mask p.0;
      text = rw (text_some m some, own) i.text;
      within = i.within;
    }

-- what is read is what would be written
pub written_read : (s : List ℕ) (m k : ℕ) → read_members s ≡ Some (m, k) → Reads s m k
unfolding read_members
written_read s m k e =
    ⊎_elim
    (λ h.
    let p = read_same 0 m 1 k (simp (eq-eqb (get_or s 0 0) 45 h) at e) in
    rw (← p.0, ← p.1) (reads_hyphen s h))
    (λ n. reads_ids s m k (ids_forth 64 s 0 m k (simp (ne_eqb (get_or s 0 0) 45 n) at e)))
    (same_or_not (get_or s 0 0) 45)
