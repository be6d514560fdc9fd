-- Walking a tree of visits: what is found on the way, and how many visits there are. Where every visit that should split does, a
-- walk of the whole tree lists all finds, and a walk that stops at the first find stops at one exactly when there is one.
use mathlib.Core.Path.{◌≡◌, refl, ap, ap₂, subst}
use mathlib.Core.Bool.{Bool, true, false}
use mathlib.Core.List.{List, [], ◌∷◌, ◌++◌}
use mathlib.Core.Logic.{inl, inr}
use Prim.Native.Nat.{ℕ, suc, ◌+◌, ◌≤◌}
use native.Mathlib.Nat.{le_refl}
use native.Mathlib.Omega.{arith}
use Rattle.sets.proofs.Listing.{Among, among_left, among_right}
use Rattle.meanings.specs.Trees.{Tree, leaf, found, unsplit, fork, hit, missed, listed, found_if, then_walk, walk, then_list, list}

module _ {A : Type 0} where
  -- all finds in the order of the walk, and all visits
  unfoldable pub finds : Tree A → List A
  finds leaf = []
  finds (found x) = x ∷ []
  finds unsplit = []
  finds (fork x y) = finds x ++ finds y

  unfoldable pub visits : Tree A → ℕ
  visits leaf = 1
  visits (found x) = 1
  visits unsplit = 1
  visits (fork x y) = suc (visits x) + visits y

  -- every visit that should split does
  abbrev pub Splits : Tree A → Type 0
  Splits leaf = Unit {0}
  Splits (found x) = Unit {0}
  Splits unsplit = ⊥
  Splits (fork x y) = Splits x × Splits y

  pub visits_pos : (t : Tree A) → 1 ≤ visits t
  unfolding visits
  visits_pos leaf = le_refl 1
  visits_pos (found x) = le_refl 1
  visits_pos unsplit = le_refl 1
  visits_pos (fork x y) = let p = visits_pos x in omega arith

  -- a leaf that finds something where a test holds
  pub maybe_splits : (b : Bool) (x : A) → Splits (found_if b x)
  maybe_splits true x = tt
  maybe_splits false x = tt

  pub maybe_visits : (b : Bool) (x : A) → visits (found_if b x) ≤ 1
  unfolding visits
  maybe_visits true x = le_refl 1
  maybe_visits false x = le_refl 1

  pub maybe_found : (b : Bool) (x : A) → b ≡ true → Among x (finds (found_if b x))
  unfolding finds
  maybe_found b x e = rw e (inl refl)

  pub found_maybe : (b : Bool) (x y : A) → Among y (finds (found_if b x)) → (b ≡ true) × (y ≡ x)
  unfolding finds
  found_maybe true x y (inl e) = (refl, e)
  found_maybe true x y (inr m) = absurd m
  found_maybe false x y m = absurd m

  pub list_all : (t : Tree A) → Splits t → list t ≡ listed (finds t) (visits t)
  unfolding list finds visits
  list_all leaf o = refl
  list_all (found x) o = refl
  list_all unsplit o = absurd o
  list_all (fork x y) o = ap₂ then_list (list_all x o.0) (list_all y o.1)

  -- how a walk that stops at the first find ends
  pub data Stops (t : Tree A) : Type 0 where
    at_end : walk t ≡ missed (visits t) → finds t ≡ [] → Stops t
    at_find : (x : A) (k : ℕ) → walk t ≡ hit x k → Among x (finds t) → 1 ≤ k → k ≤ visits t → Stops t

  none_found : (l m : List A) → l ≡ [] → m ≡ [] → l ++ m ≡ []
  none_found l m p q = ap₂ ◌++◌ p q

  pub walk_stops : (t : Tree A) → Splits t → Stops t
  unfolding walk finds visits
  walk_stops leaf o = at_end refl refl
  walk_stops (found x) o = at_find x 1 refl (inl refl) (le_refl 1) (le_refl 1)
  walk_stops unsplit o = absurd o
  walk_stops (fork x y) o = go (walk_stops x o.0) (walk_stops y o.1)
    where
      go : Stops x → Stops y → Stops (fork x y)
      go (at_find a k e i p q) w = at_find a (suc k) (ap (λ z. then_walk z (walk y)) e) (among_left a (finds x) (finds y) i) (omega arith) (omega arith)
      go (at_end e f) (at_end e' f') = at_end (ap₂ then_walk e e') (none_found (finds x) (finds y) f f')
      go (at_end e f) (at_find a k e' i p q) =
          at_find a (suc (visits x) + k) (ap₂ then_walk e e') (among_right a (finds x) (finds y) i) (omega arith) (omega arith)

  -- where there is something to find it is found
  pub walk_finds : (t : Tree A) (x : A) → Splits t → Among x (finds t) → (y : A) × (k : ℕ) × (walk t ≡ hit y k) × Among y (finds t)
  walk_finds t x o m = go (walk_stops t o)
    where
      go : Stops t → (y : A) × (k : ℕ) × (walk t ≡ hit y k) × Among y (finds t)
      go (at_find a k e i p q) = (a, k, e, i)
      go (at_end e f) = absurd (subst (Among x) f m)
