-- What is demanded of the lists, stated of the reply that a caller reads. A number other than 1 to 7 is for a sound table. There the walk of the
-- whole tree lists every such set, so nothing is left to decide but whether its visits are within the allowance, and its sets within the room.
use mathlib.Core.Path.{◌≡◌, ap, ◌∙◌}
use mathlib.Core.List.{List, [], ◌∷◌}
use mathlib.Core.Logic.{⊎_elim}
use Prim.Native.Nat.{ℕ, suc, ◌^◌, ◌≤◌, ◌<◌}
use native.Mathlib.Omega.{arith}
use borrow.Author.Tests.{lt-ltb, le-ltb}
use lib.ListN.{length}
use Rattle.sets.specs.Sets.{everyone, size}
use Rattle.sets.proofs.Size.{le-or-lt, size-everyone}
use Rattle.meanings.specs.Table.{nodes, satisfied}
use Rattle.meanings.specs.Faults.{Check, sound, check}
use Rattle.meanings.specs.Quorums.{minimal_quorums, minimal_blocking_sets}
use Rattle.meanings.specs.Trees.{Listing, listed, list, minimal_tree, blocking_tree}
use Rattle.meanings.specs.Replies.{Reply, reply, ◌is◌, Count, Visits, value}
use Rattle.meanings.specs.Questions.{on_check, in_allowance, in_room, list_says, minimal_reply, blocking_reply}
use Rattle.theory.proofs.Walks.{visits}
use Rattle.theory.proofs.Minimal.{minimal_listed, minimal_visits}
use Rattle.theory.proofs.Blocking.{blocking_listed, blocking_visits}
use Rattle.faults.proofs.Numbers.{Further, table_sound, in_allowance_lem, over_allowance}
use Rattle.satisfaction.proofs.Monotone.{satisfied_monotone}
use Rattle.lists.proofs.Means.{more_says}

-- a list of the sets l of a table, from a tree of so many visits; what is replied under an allowance, with room for so many sets
pub record Demanded (t l : List ℕ) (steps : ℕ) (replied : ℕ → ℕ → Reply) : Type 0 where
  -- 0 exactly when the visits are within the allowance and the sets within the room
  pub answer_only : (allowance room : ℕ) → (replied allowance room).number ≡ 0
      → (check t ≡ sound) × (steps ≤ allowance) × (length l ≤ room) × (value (replied allowance room) Count ≡ length l) × (value (replied allowance room) Visits ≡ steps)
  pub answer_whenever : (allowance room : ℕ) → check t ≡ sound → steps ≤ allowance → length l ≤ room → (replied allowance room).number ≡ 0
  -- 9 exactly when the visits are more than the allowance, and then with the allowance
  pub nine_only : (allowance room : ℕ) → (replied allowance room).number ≡ 9
      → (check t ≡ sound) × (allowance < steps) × (value (replied allowance room) Visits ≡ allowance)
  pub nine_whenever : (allowance room : ℕ) → check t ≡ sound → allowance < steps → (replied allowance room).number ≡ 9
  -- 10 exactly when the visits are within the allowance and the sets are more than the room, and then with their count
  pub ten_only : (allowance room : ℕ) → (replied allowance room).number ≡ 10
      → (check t ≡ sound) × (steps ≤ allowance) × (room < length l) × (value (replied allowance room) Count ≡ length l)
  pub ten_whenever : (allowance room : ℕ) → check t ≡ sound → steps ≤ allowance → room < length l → (replied allowance room).number ≡ 10
  -- 13 never comes
  pub never_thirteen : (allowance room : ℕ) → ¬ ((replied allowance room).number ≡ 13)
  -- a larger allowance alters nothing but number 9
  pub larger_allowance : (a b room : ℕ) → a ≤ b → ¬ ((replied a room).number ≡ 9) → replied b room ≡ replied a room
  -- with no tree in it: under an allowance of 2 ^ (n + 1) - 1, for n nodes, 9 never comes
  pub enough : (allowance room : ℕ) → 2 ^ suc (nodes t) ≤ suc allowance → ¬ ((replied allowance room).number ≡ 9)

abbrev number_of : Reply → ℕ
number_of r = r.number

-- what is replied for a sound table
data Outcome (l : List ℕ) (steps allowance room : ℕ) (r : Reply) : Type 0 where
  answered : steps ≤ allowance → length l ≤ room → r ≡ reply 0 (Count is length l ∷ Visits is steps ∷ []) → Outcome l steps allowance room r
  short : steps ≤ allowance → room < length l → r ≡ reply 10 (Count is length l ∷ []) → Outcome l steps allowance room r
  stopped : allowance < steps → r ≡ reply 9 (Visits is allowance ∷ []) → Outcome l steps allowance room r

module _ (t : List ℕ) (L : Listing ℕ) (l : List ℕ) (steps : ℕ) (all : L ≡ listed l steps) (few : suc steps ≤ 2 ^ suc (nodes t)) where
  abbrev replied : ℕ → ℕ → Reply
  replied allowance room = on_check (check t) (list_says allowance room L)

  module _ (allowance room : ℕ) where
    abbrev R : Reply
    R = replied allowance room

    outcome : check t ≡ sound → Outcome l steps allowance room R
    outcome c =
        ⊎_elim
        (λ m. ⊎_elim
        (λ k. answered m k (e ∙ in_allowance_lem allowance steps full m ∙ rw (le-ltb room (length l) k)))
        (λ k. short m k (e ∙ in_allowance_lem allowance steps full m ∙ rw (lt-ltb room (length l) k)))
        (le-or-lt (length l) room))
        (λ m. stopped m (e ∙ over_allowance allowance steps full m))
        (le-or-lt steps allowance)
      where
        full : Reply
        full = in_room room (length l) (reply 0 (Count is length l ∷ Visits is steps ∷ []))

        e : R ≡ in_allowance allowance steps full
        e = ap (λ (x : Check). on_check x (list_says allowance room L)) c ∙ ap (list_says allowance room) all

    found : Further R.number → (check t ≡ sound) × Outcome l steps allowance room R
    found h = let c = table_sound t (list_says allowance room L) h in (c, outcome c)

    answer_only : R.number ≡ 0 → (check t ≡ sound) × (steps ≤ allowance) × (length l ≤ room) × (value R Count ≡ length l) × (value R Visits ≡ steps)
    answer_only e = go (found (λ (k : 1 ≤ R.number). omega arith))
      where
        go : (check t ≡ sound) × Outcome l steps allowance room R
            → (check t ≡ sound) × (steps ≤ allowance) × (length l ≤ room) × (value R Count ≡ length l) × (value R Visits ≡ steps)
        go (c, answered m k f) = (c, m, k, ap (λ (x : Reply). value x Count) f, ap (λ (x : Reply). value x Visits) f)
        go (c, short m k f) = let z : R.number ≡ 10 = ap number_of f in absurd (omega arith)
        go (c, stopped m f) = let z : R.number ≡ 9 = ap number_of f in absurd (omega arith)

    answer_whenever : check t ≡ sound → steps ≤ allowance → length l ≤ room → R.number ≡ 0
    answer_whenever c h k = go (outcome c)
      where
        go : Outcome l steps allowance room R → R.number ≡ 0
        go (answered m j f) = ap number_of f
        go (short m j f) = absurd (omega arith)
        go (stopped m f) = absurd (omega arith)

    nine_only : R.number ≡ 9 → (check t ≡ sound) × (allowance < steps) × (value R Visits ≡ allowance)
    nine_only e = go (found (λ (k : 1 ≤ R.number). omega arith))
      where
        go : (check t ≡ sound) × Outcome l steps allowance room R → (check t ≡ sound) × (allowance < steps) × (value R Visits ≡ allowance)
        go (c, answered m k f) = let z : R.number ≡ 0 = ap number_of f in absurd (omega arith)
        go (c, short m k f) = let z : R.number ≡ 10 = ap number_of f in absurd (omega arith)
        go (c, stopped m f) = (c, m, ap (λ (x : Reply). value x Visits) f)

    nine_whenever : check t ≡ sound → allowance < steps → R.number ≡ 9
    nine_whenever c h = go (outcome c)
      where
        go : Outcome l steps allowance room R → R.number ≡ 9
        go (answered m k f) = absurd (omega arith)
        go (short m k f) = absurd (omega arith)
        go (stopped m f) = ap number_of f

    ten_only : R.number ≡ 10 → (check t ≡ sound) × (steps ≤ allowance) × (room < length l) × (value R Count ≡ length l)
    ten_only e = go (found (λ (k : 1 ≤ R.number). omega arith))
      where
        go : (check t ≡ sound) × Outcome l steps allowance room R → (check t ≡ sound) × (steps ≤ allowance) × (room < length l) × (value R Count ≡ length l)
        go (c, answered m k f) = let z : R.number ≡ 0 = ap number_of f in absurd (omega arith)
        go (c, short m k f) = (c, m, k, ap (λ (x : Reply). value x Count) f)
        go (c, stopped m f) = let z : R.number ≡ 9 = ap number_of f in absurd (omega arith)

    ten_whenever : check t ≡ sound → steps ≤ allowance → room < length l → R.number ≡ 10
    ten_whenever c h k = go (outcome c)
      where
        go : Outcome l steps allowance room R → R.number ≡ 10
        go (answered m j f) = absurd (omega arith)
        go (short m j f) = ap number_of f
        go (stopped m f) = absurd (omega arith)

    never_thirteen : ¬ (R.number ≡ 13)
    never_thirteen e = go (found (λ (k : 1 ≤ R.number). omega arith)).1
      where
        go : Outcome l steps allowance room R → ⊥
        go (answered m k f) = let z : R.number ≡ 0 = ap number_of f in omega arith
        go (short m k f) = let z : R.number ≡ 10 = ap number_of f in omega arith
        go (stopped m f) = let z : R.number ≡ 9 = ap number_of f in omega arith

  demanded : Demanded t l steps replied
  demanded =
      record {
        answer_only = answer_only;
        answer_whenever = answer_whenever;
        nine_only = nine_only;
        nine_whenever = nine_whenever;
        ten_only = ten_only;
        ten_whenever = ten_whenever;
        never_thirteen = never_thirteen;
        larger_allowance = λ a b room h. more_says (check t) a b room L h;
        enough = λ allowance room h e. let w = (nine_only allowance room e).1 in omega arith;
      }

-- ---- the two lists
module _ (t : List ℕ) where
  few : (steps : ℕ) → suc steps ≤ 2 ^ suc (size (nodes t) (everyone (nodes t))) → suc steps ≤ 2 ^ suc (nodes t)
  few steps h = rw size-everyone at h

  pub minimal_demanded : Demanded t (minimal_quorums (nodes t) (satisfied t)) (visits (minimal_tree (nodes t) (satisfied t))) (minimal_reply t)
  unfolding minimal_reply
  minimal_demanded =
      let n = nodes t in
      let s = satisfied t in
      demanded t (list (minimal_tree n s)) (minimal_quorums n s) (visits (minimal_tree n s)) (minimal_listed n s (satisfied_monotone t))
      (few (visits (minimal_tree n s)) (minimal_visits n s))

  pub blocking_demanded : Demanded t (minimal_blocking_sets (nodes t) (satisfied t)) (visits (blocking_tree (nodes t) (satisfied t))) (blocking_reply t)
  unfolding blocking_reply
  blocking_demanded =
      let n = nodes t in
      let s = satisfied t in
      demanded t (list (blocking_tree n s)) (minimal_blocking_sets n s) (visits (blocking_tree n s)) (blocking_listed n s (satisfied_monotone t))
      (few (visits (blocking_tree n s)) (blocking_visits n s))
