-- The ids that are read are those of a rising list, and its text is what was read.
use Prim.Native.Nat.{ℕ, zero, suc, ◌+◌, ◌^◌, ◌≤◌, ◌<◌}
use native.Mathlib.Omega.{arith}
use native.Mathlib.Nat.{add-zero}
use native.Mathlib.Numerals.{add-one}
use mathlib.Core.Path.{◌≡◌, refl, ap, sym}
use mathlib.Core.Bool.{cond}
use mathlib.Core.Logic.{⊎_elim}
use mathlib.Core.List.{List, [], ◌∷◌, append_assoc}
use borrow.Author.Tests.{eq-eqb, ne_eqb}
use lib.Dec.{eqb}
use lib.ListN.{length, get_or, take, drop, length-drop}
use lib.Seq.{take-add, take-suc}
use Rattle.std.proofs.Common.{Option, Some, None}
use Rattle.decimal.specs.Decimal.{numeral, on_read}
use Rattle.decimal.proofs.Order.{same_or_not, inside}
use Rattle.decimal.proofs.Round.{read_same}
use Rattle.members.specs.Members.{with_commas, read_id, join, read_ids}
use Rattle.members.proofs.Nodes.{mask_of, Rising, none, next}
use Rattle.members.proofs.Written.{commas_more}
use Rattle.members.proofs.One.{Took, took}

-- the first u bytes of t are the ids of a rising list, whose set is m
pub record Ids (t : List ℕ) (least m u : ℕ) : Type 0 where
  pub list : List ℕ
  pub some : 0 < length list
  pub rising : Rising least list
  pub mask : m ≡ mask_of list
  pub text : take u t ≡ with_commas list
  pub within : u ≤ length t

one : (t : List ℕ) (least v k : ℕ) → Took t least v k → Ids t least (2 ^ v) k
unfolding with_commas mask_of
one t least v k o =
    record {
      list = v ∷ [];
      some = omega arith;
      rising = next o.low o.high none;
      mask = sym (add-zero (2 ^ v));
      text = o.text;
      within = o.within;
    }

and_more : (t : List ℕ) (least v k m u : ℕ) → Took t least v k → get_or t k 0 ≡ 44 → Ids (drop (k + 1) t) (v + 1) m u
    → Ids t least (2 ^ v + m) (k + 1 + u)
unfolding mask_of
and_more t least v k m u o e s =
    let h : k < length t = inside t k (omega arith) in
    record {
      list = v ∷ s.list;
      some = omega arith;
      rising = next o.low o.high s.rising;
      mask = ap (λ (n : ℕ). 2 ^ v + n) s.mask;
      text =
          rw (take-add (k + 1) u t, s.text, commas_more v s.list s.some, add-one k, take-suc t k 0 h, e, o.text)
          (append_assoc (numeral v) (44 ∷ []) (with_commas s.list));
      within = omega (arith, s.within, length-drop (k + 1) t);
    }

joined : (t : List ℕ) (least v k : ℕ) → Took t least v k → get_or t k 0 ≡ 44 → (x : Option (ℕ × ℕ))
    → ((m u : ℕ) → x ≡ Some (m, u) → Ids (drop (k + 1) t) (v + 1) m u) → (m u : ℕ) → join (2 ^ v) (k + 1) x ≡ Some (m, u) → Ids t least m u
unfolding join
joined t least v k o c None ih m u e = absurd (cc)
joined t least v k o c (Some (n, w)) ih m u e =
    let p = read_same (2 ^ v + n) m (k + 1 + w) u e in
    rw (← p.0, ← p.1) (and_more t least v k n w o c (ih n w refl))

-- what is to be shown of at most f ids
abbrev Forth : ℕ → Type 0
Forth f = (t : List ℕ) (least m u : ℕ) → read_ids f t least ≡ Some (m, u) → Ids t least m u

by_id : (f : ℕ) → Forth f → (t : List ℕ) (least m u : ℕ) (x : Option (ℕ × ℕ)) → read_id t least ≡ x
    → on_read {B = Option (ℕ × ℕ)} x None
    (λ v k. cond (eqb (get_or t k 0) 44) (join (2 ^ v) (k + 1) (read_ids f (drop (k + 1) t) (v + 1))) (Some (2 ^ v, k))) ≡ Some (m, u)
    → Ids t least m u
by_id f ih t least m u None e g = absurd (cc)
by_id f ih t least m u (Some (v, k)) e g =
    let o = took t least v k e in
    ⊎_elim
    (λ c.
    joined t least v k o c (read_ids f (drop (k + 1) t) (v + 1)) (ih (drop (k + 1) t) (v + 1)) m u (simp (eq-eqb (get_or t k 0) 44 c) at g))
    (λ n.
    let p = read_same (2 ^ v) m k u (simp (ne_eqb (get_or t k 0) 44 n) at g) in
    rw (← p.0, ← p.1) (one t least v k o))
    (same_or_not (get_or t k 0) 44)

pub ids_forth : (f : ℕ) → Forth f
unfolding read_ids
ids_forth zero t least m u e = absurd (cc)
ids_forth (suc f) t least m u e = by_id f (ids_forth f) t least m u (read_id t least) refl e
