-- The ids that are written are read back, one after the other: each is at least one above the one before, since the list rises.
use Prim.Native.Nat.{ℕ, zero, suc, ◌+◌, ◌^◌, ◌≤◌, ◌<◌}
use native.Mathlib.Omega.{arith}
use native.Mathlib.Nat.{add-zero}
use mathlib.Core.Path.{◌≡◌, refl, ap, ◌∙◌}
use mathlib.Core.List.{List, [], ◌∷◌, ◌++◌, append_assoc}
use borrow.Author.Tests.{ne_eqb}
use lib.ListN.{length, get_or, length-append}
use lib.Seq.{drop-append-add}
use Rattle.std.proofs.Common.{Some, None}
use Rattle.decimal.specs.Decimal.{numeral, digit_at, digit_of}
use Rattle.members.specs.Members.{with_commas, join, read_ids}
use Rattle.members.proofs.Nodes.{mask_of, Rising, next}
use Rattle.members.proofs.One.{seam, read_back}

comma_stops : (t : List ℕ) → digit_at (44 ∷ t) 0 ≡ None
unfolding digit_at digit_of
comma_stops t = refl

-- an id before a comma
before_comma : (f i least : ℕ) (t : List ℕ) → least ≤ i → i ≤ 63
    → read_ids (suc f) (numeral i ++ 44 ∷ t) least ≡ join (2 ^ i) (length (numeral i) + 1) (read_ids f t (i + 1))
unfolding read_ids
before_comma f i least t low high =
    rw (read_back i (44 ∷ t) least low high (comma_stops t), seam i (44 ∷ t), drop-append-add (numeral i) (44 ∷ t) 1)

module _ (rest : List ℕ) (no_digit : digit_at rest 0 ≡ None) (no_comma : get_or rest 0 0 ≡ 44 → ⊥) where
  -- the last id
  at_end : (f i least : ℕ) → least ≤ i → i ≤ 63 → read_ids (suc f) (numeral i ++ rest) least ≡ Some (2 ^ i, length (numeral i))
  unfolding read_ids
  at_end f i least low high = rw (read_back i rest least low high no_digit, seam i rest) (simp (ne_eqb (get_or rest 0 0) 44 no_comma))

  abbrev Back : ℕ → List ℕ → ℕ → Type 0
  Back f is least = read_ids f (with_commas is ++ rest) least ≡ Some (mask_of is, length (with_commas is))

  pub ids_back : (f : ℕ) (is : List ℕ) (least : ℕ) → Rising least is → 0 < length is → length is ≤ f → Back f is least
  unfolding with_commas mask_of join
  ids_back zero is least r some few = absurd (omega arith)
  ids_back (suc f) [] least r some few = absurd (omega arith)
  ids_back (suc f) (i ∷ []) least (next low high r) some few = rw (at_end f i least low high, add-zero)
  ids_back (suc f) (i ∷ j ∷ is) least (next low high r) some few =
      let ih : Back f (j ∷ is) (i + 1) = ids_back f (j ∷ is) (i + 1) r (omega arith) (omega arith) in
      let u : length (numeral i) + 1 + length (with_commas (j ∷ is)) ≡ length (numeral i ++ 44 ∷ with_commas (j ∷ is)) =
      omega (arith, length-append (numeral i) (44 ∷ with_commas (j ∷ is))) in
      rw append_assoc (before_comma f i least (with_commas (j ∷ is) ++ rest) low high ∙ rw ih (ap (λ (n : ℕ). Some (2 ^ i + mask_of (j ∷ is), n)) u))
