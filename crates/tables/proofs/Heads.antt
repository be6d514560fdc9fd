-- The records that open nodes, as a walk from the first record on meets them: a record at level 0 is the head of the node whose
-- number is how many heads stand before it.
use mathlib.Core.Path.{◌≡◌, refl, sym, ap, ◌∙◌, subst}
use mathlib.Core.Bool.{Bool, true, false}
use mathlib.Core.Logic.{⊎_elim}
use mathlib.Core.List.{List, ◌∷◌, ◌++◌}
use Prim.Native.Nat.{ℕ, zero, suc, ◌+◌, ◌-◌, ◌≤◌, ◌<◌}
use native.Mathlib.Nat.{zero-add, add-zero}
use native.Mathlib.Numerals.{add-one}
use native.Mathlib.Omega.{arith}
use borrow.Author.Tests.{eq-eqb, ne_eqb, eqb-true}
use lib.ListN.{length, get_or, set, length-append}
use lib.Seq.{get_or-append-add, get_or-set_same, get_or-set_other}
use Rattle.sets.proofs.Size.{le-or-lt}
use Rattle.sets.specs.Lists.{keep, cons_if, from}
use Rattle.meanings.specs.Table.{records, level, heads, nodes, head_of}
use Rattle.tables.specs.Run.{bump}
use Rattle.tables.specs.Heads.{is_head, heads_in, heads_before, HeadsTo}
use Rattle.tables.proofs.Lists.{keep_split, keep_last, keep_at, Picked}

pub before_first : (t : List ℕ) → heads_before t 0 ≡ 0
unfolding keep from
before_first t = refl

pub before-all : (t : List ℕ) → heads_before t (records t) ≡ nodes t
unfolding nodes heads
before-all t = refl

module _ (t : List ℕ) (r : ℕ) where
  before_step : heads_before t (suc r) ≡ bump (is_head t r) (heads_before t r)
  before_step = keep_last (is_head t) 0 r ∙ ap (λ (k : ℕ). bump (is_head t k) (heads_before t r)) (zero-add r)

  pub head_step : level t r ≡ 0 → heads_before t (r + 1) ≡ suc (heads_before t r)
  head_step e = ap (heads_before t) (add-one r) ∙ before_step ∙ rw (eq-eqb (level t r) 0 e)

  pub inner_step : ¬ (level t r ≡ 0) → heads_before t (r + 1) ≡ heads_before t r
  inner_step e = ap (heads_before t) (add-one r) ∙ before_step ∙ rw (ne_eqb (level t r) 0 e)

bump-le : (b : Bool) (n : ℕ) → bump b n ≤ suc n
bump-le true n = omega arith
bump-le false n = omega arith

pub step_le : (t : List ℕ) (r : ℕ) → heads_before t (suc r) ≤ suc (heads_before t r)
step_le t r = let e = before_step t r in let h = bump-le (is_head t r) (heads_before t r) in omega arith

pub before-le : (t : List ℕ) (r : ℕ) → heads_before t r ≤ r
before-le t zero = let e = before_first t in omega arith
before-le t (suc r) = let h = step_le t r in let l = before-le t r in omega arith

-- the heads, parted at a record that is one
module _ (t : List ℕ) (r : ℕ) (l : r < records t) (e : level t r ≡ 0) where
  abbrev after : List ℕ
  after = heads_in t (suc r) (records t - suc r)

  heads-parted : heads t ≡ heads_in t 0 r ++ (r ∷ after)
  unfolding heads keep from
  heads-parted =
      let k : records t ≡ r + suc (records t - suc r) = omega arith in
      ap (heads_in t 0) k
      ∙ keep_split (is_head t) 0 r (suc (records t - suc r))
      ∙ ap (λ (n : ℕ). heads_in t 0 r ++ heads_in t n (suc (records t - suc r))) (zero-add r)
      ∙ ap (λ (b : Bool). heads_in t 0 r ++ cons_if b r after) (eq-eqb (level t r) 0 e)

  -- a record at level 0 is the head of the node that the heads before it number
  pub head_of_lem : head_of t (heads_before t r) ≡ r
  unfolding head_of
  head_of_lem =
      ap (λ (m : List ℕ). get_or m (heads_before t r) 0) heads-parted
      ∙ ap (λ (n : ℕ). get_or (heads_in t 0 r ++ (r ∷ after)) n 0) (sym (add-zero (heads_before t r)))
      ∙ get_or-append-add (heads_in t 0 r) (r ∷ after) 0 0

  pub head_node : heads_before t r < nodes t
  unfolding nodes
  head_node =
      let n : nodes t ≡ heads_before t r + suc (length after) = ap length heads-parted ∙ length-append (heads_in t 0 r) (r ∷ after) in
      omega arith

-- the head of a node is a record at level 0
module _ (t : List ℕ) (v : ℕ) (l : v < nodes t) where
  picked : Picked (is_head t) 0 (records t) (head_of t v)
  unfolding nodes heads head_of
  picked = keep_at (is_head t) 0 (records t) v l

  pub head_of-lt : head_of t v < records t
  head_of-lt = let w = picked.to_last in omega arith

  pub head_of-level : level t (head_of t v) ≡ 0
  head_of-level = eqb-true (level t (head_of t v)) 0 picked.passes

-- ---- the heads found so far, and one more
pub one_head : (t found : List ℕ) (v r : ℕ) → v < length found → r < records t → level t r ≡ 0 → v ≡ heads_before t r → HeadsTo t found v → HeadsTo t (set found v r) (v + 1)
one_head t found v r l h e n H w q =
    ⊎_elim
    (λ (p : v ≤ w).
    let d : w ≡ v = omega arith in
    ap (λ (k : ℕ). get_or (set found v r) k 0) d ∙ get_or-set_same found v r 0 l ∙ sym (head_of_lem t r h e) ∙ ap (head_of t) (sym n ∙ sym d))
    (λ (p : w < v). get_or-set_other found v w r 0 (λ c. omega arith) ∙ H w p)
    (le-or-lt v w)

-- the record that a list has for a node is one of the table
pub head_in : (t found : List ℕ) → HeadsTo t found (nodes t) → (v : ℕ) → v < nodes t → get_or found v 0 < records t
head_in t found H v l = subst (λ (r : ℕ). r < records t) (sym (H v l)) (head_of-lt t v l)
