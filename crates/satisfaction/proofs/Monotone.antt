-- Satisfaction by a table's quorum sets is monotone: when a set grows, the members in it and the inner sets that it satisfies only grow.
use mathlib.Core.Path.{◌≡◌, refl}
use mathlib.Core.Bool.{Bool, true, false}
use mathlib.Core.List.{List, [], ◌∷◌}
use Prim.Native.Nat.{ℕ, zero, suc, ◌+◌, ◌≤◌}
use native.Mathlib.Nat.{le_refl}
use native.Mathlib.Omega.{arith}
use lib.ListN.{length}
use Rattle.sets.specs.Sets.{size, ◌∩◌}
use Rattle.sets.specs.Lists.{cons_if, keep}
use Rattle.sets.proofs.Members.{Sub, ∩_in, ∩_out}
use Rattle.sets.proofs.Size.{sub-size}
use Rattle.meanings.specs.Table.{members, inner_sets, head_of, satisfies, satisfied}
use Rattle.theory.proofs.Quorum.{Monotone}
use Rattle.satisfaction.proofs.Suffice.{suffice_more}

-- a weaker test passes no fewer
keep_more : (f g : ℕ → Bool) → ((x : ℕ) → f x ≡ true → g x ≡ true) → (l : List ℕ) → length (keep f l) ≤ length (keep g l)
unfolding keep
keep_more f g w [] = le_refl 0
keep_more f g w (x ∷ l) = go (f x) refl (g x) refl (keep_more f g w l)
  where
    go : (a : Bool) → f x ≡ a → (b : Bool) → g x ≡ b → length (keep f l) ≤ length (keep g l) → length (cons_if a x (keep f l)) ≤ length (cons_if b x (keep g l))
    go true p true q h = omega arith
    go true p false q h = Rattle.sets.proofs.Bools.clash (g x) (w x p) q
    go false p true q h = omega arith
    go false p false q h = h

members_more : (t : List ℕ) (r a b : ℕ) → Sub a b → size 64 (members t r ∩ a) ≤ size 64 (members t r ∩ b)
members_more t r a b f =
    sub-size 64 (members t r ∩ a) (members t r ∩ b) (λ i p. let q = ∩_out (members t r) a i p in ∩_in (members t r) b i q.0 (f i q.1))

pub satisfies_more : (left : ℕ) (t : List ℕ) (a b r : ℕ) → Sub a b → satisfies left t a r ≡ true → satisfies left t b r ≡ true
unfolding satisfies
satisfies_more zero t a b r f e =
    suffice_more t r (size 64 (members t r ∩ a)) (size 64 (members t r ∩ b)) (members_more t r a b f) e
satisfies_more (suc left) t a b r f e =
    let m = members_more t r a b f in
    let i = keep_more (λ j. satisfies left t a j) (λ j. satisfies left t b j) (λ j. satisfies_more left t a b j f) (inner_sets t r) in
    suffice_more t r (size 64 (members t r ∩ a) + length (keep (λ j. satisfies left t a j) (inner_sets t r)))
    (size 64 (members t r ∩ b) + length (keep (λ j. satisfies left t b j) (inner_sets t r)))
    (omega arith)
    e

pub satisfied_monotone : (t : List ℕ) → Monotone (satisfied t)
unfolding satisfied
satisfied_monotone t a b v f e = satisfies_more 3 t a b (head_of t v) f e
