-- The tree of the verdict and of the minimal quorums, a visit at a time. A visit that comes to the split has a node to split on: were
-- the greatest quorum in reach no more than c, c would be a quorum itself. The open nodes below it are fewer by that node, so the tree
-- ends, and a deeper bound changes nothing.
use mathlib.Core.Path.{◌≡◌, sym, ap, ap₂, ◌∙◌, subst}
use mathlib.Core.Bool.{Bool, true, false, not, ◌||◌}
use mathlib.Core.Logic.{◌⊎◌, inl, inr, ⊎_elim}
use Prim.Native.Nat.{ℕ, zero, suc, ◌*◌, ◌^◌, ◌≤◌, ◌<◌}
use native.Mathlib.Nat.{not-suc-le-zero, le_refl, pow-suc}
use native.Mathlib.Omega.{arith}
use borrow.Author.Tests.{eqb-true, eqb-false, eq-eqb, ne_eqb}
use lib.Pow.{pow-lt, pow_pos, pow_mono}
use Rattle.sets.specs.Sets.{has, nobody, only, ◌∪◌, ◌∖◌, empty, within, size, lowest}
use Rattle.sets.proofs.Bools.{either, clash, or_fails, or_neither, not_fails, fails}
use Rattle.sets.proofs.Members.{In, Sub, ∪_cases, ∪-lt, ∖_in, ∖_out, ∖-lt, none_in, only_in, only_out, within-sub, sub_within, sub_antisym}
use Rattle.sets.proofs.Size.{size-lt, size-le}
use Rattle.sets.proofs.Lowest.{lowest_in, lowest-lt}
use Rattle.meanings.specs.Quorums.{quorum, greatest}
use Rattle.meanings.specs.Trees.{Tree, leaf, unsplit, fork, quorum_tree}
use Rattle.theory.proofs.Quorum.{Monotone, Quorum, is_quorum}
use Rattle.theory.proofs.Greatest.{greatest-lt, greatest-sub, greatest-quorum}
use Rattle.theory.proofs.Walks.{visits, Splits}

-- a single visit is within the bound
pub few : (k : ℕ) → 2 ≤ 2 ^ suc k
few k = let p : 0 < 2 ^ k = pow_pos k in let q : 2 ^ suc k ≡ 2 ^ k * 2 = pow-suc 2 k in omega arith

-- the greatest quorum in reach, the nodes that can be split on, the one that is, and the open nodes below
module _ (n : ℕ) (s : ℕ → ℕ → Bool) (d c r : ℕ) where
  abbrev pub reach : ℕ
  reach = greatest n s d (c ∪ r)

  abbrev pub choices : ℕ
  choices = reach ∖ c

  abbrev pub chosen : ℕ
  chosen = lowest n choices

  abbrev pub below : ℕ
  below = choices ∖ only chosen

  -- step (2) makes a leaf
  abbrev pub dry : Bool
  dry = empty reach || not (within c reach)

  pub choices_lt : choices < 2 ^ n
  choices_lt = ∖-lt n reach c (greatest-lt n s d (c ∪ r))

  pub below_lt : below < 2 ^ n
  below_lt = ∖-lt n choices (only chosen) choices_lt

  pub choices_open : Sub choices r
  choices_open i p =
      let q = ∖_out reach c i p in
      ⊎_elim (λ x. clash (has c i) x q.1) (λ x. x) (∪_cases c r i (greatest-sub n s d (c ∪ r) i q.0))

  pub dry-no : dry ≡ false → ¬ (reach ≡ nobody) × Sub c reach
  dry-no e =
      let w = or_fails (empty reach) (not (within c reach)) e in
      (eqb-false reach 0 w.0, within-sub c reach (not_fails (within c reach) w.1))

  pub no-dry : c < 2 ^ n → ¬ (reach ≡ nobody) → Sub c reach → dry ≡ false
  no-dry h z f = or_neither (empty reach) (not (within c reach)) (ne_eqb reach 0 z) (ap not (sub_within n c reach h f))

  -- ---- a node to split on
  module _ (z : ¬ (choices ≡ nobody)) where
    pub chosen_in : In choices chosen
    chosen_in = lowest_in n choices choices_lt z

    pub chosen-lt : chosen < n
    chosen-lt = lowest-lt n choices choices_lt z

    pub only-lt : only chosen < 2 ^ n
    only-lt = pow-lt chosen-lt

    -- the open nodes below are fewer by the node chosen
    pub fewer : r < 2 ^ n → size n below < size n r
    fewer h =
        size-lt n below r chosen below_lt h (λ i p. choices_open i (∖_out choices (only chosen) i p).0) (choices_open chosen chosen_in)
        (fails (has below chosen) (λ p. clash (has (only chosen) chosen) (only_in chosen) (∖_out choices (only chosen) chosen p).1))

    -- what is in reach is c, the node chosen and what is open below
    pub reach_cases : (i : ℕ) → In reach i → (In c i ⊎ (i ≡ chosen)) ⊎ In below i
    reach_cases i p =
        ⊎_elim (λ x. inl (inl x))
        (λ x. ⊎_elim (λ y. inl (inr (only_out i chosen y))) (λ y. inr (∖_in choices (only chosen) i (∖_in reach c i p x) y)) (either (has (only chosen) i)))
        (either (has c i))

  -- T15: where c is in reach and no quorum, there is a node to split on
  pub some_choice : Monotone s → c < 2 ^ n → dry ≡ false → quorum n s d c ≡ false → ¬ (choices ≡ nobody)
  some_choice mono h e k z =
      let w = dry-no e in
      let back : Sub reach c = λ i p. ⊎_elim (λ x. x) (λ x. none_in choices i z (∖_in reach c i p x)) (either (has c i)) in
      let same : reach ≡ c = sub_antisym n reach c (greatest-lt n s d (c ∪ r)) h back w.1 in
      clash (quorum n s d c) (is_quorum n s d c (subst (Quorum n s d) same (greatest-quorum n s mono d (c ∪ r) w.0))) k

module _ {A : Type 0} (n : ℕ) (s : ℕ → ℕ → Bool) (d : ℕ) (prune : ℕ → Bool) (at_quorum : ℕ → Tree A) where
  abbrev tree : ℕ → ℕ → ℕ → Tree A
  tree = quorum_tree n s d prune at_quorum

  -- ---- what a visit comes to
  module _ (most c r : ℕ) where
    pub tree_pruned : prune c ≡ true → tree (suc most) c r ≡ leaf
    unfolding quorum_tree
    tree_pruned e = rw (quorum_tree, e)

    pub tree_dry : prune c ≡ false → dry n s d c r ≡ true → tree (suc most) c r ≡ leaf
    unfolding quorum_tree
    tree_dry e k = rw (quorum_tree, e, k)

    pub tree_quorum : prune c ≡ false → dry n s d c r ≡ false → quorum n s d c ≡ true → tree (suc most) c r ≡ at_quorum c
    unfolding quorum_tree
    tree_quorum e k q = rw (quorum_tree, e, k, q)

    pub tree_unsplit : prune c ≡ false → dry n s d c r ≡ false → quorum n s d c ≡ false → choices n s d c r ≡ nobody
        → tree (suc most) c r ≡ unsplit
    unfolding quorum_tree
    tree_unsplit e k q z = rw (quorum_tree, e, k, q, eq-eqb (choices n s d c r) 0 z)

    pub tree_fork : prune c ≡ false → dry n s d c r ≡ false → quorum n s d c ≡ false → ¬ (choices n s d c r ≡ nobody)
        → tree (suc most) c r ≡ fork (tree most c (below n s d c r)) (tree most (c ∪ only (chosen n s d c r)) (below n s d c r))
    unfolding quorum_tree
    tree_fork e k q z = rw (quorum_tree, e, k, q, ne_eqb (choices n s d c r) 0 z)

  -- by cases on what a visit comes to
  pub data Visit (c r : ℕ) : Type 0 where
    pruned : prune c ≡ true → Visit c r
    dried : prune c ≡ false → dry n s d c r ≡ true → Visit c r
    quorate : prune c ≡ false → dry n s d c r ≡ false → quorum n s d c ≡ true → Visit c r
    lost : prune c ≡ false → dry n s d c r ≡ false → quorum n s d c ≡ false → choices n s d c r ≡ nobody → Visit c r
    parted : prune c ≡ false → dry n s d c r ≡ false → quorum n s d c ≡ false → ¬ (choices n s d c r ≡ nobody) → Visit c r

  pub visit : (c r : ℕ) → Visit c r
  visit c r =
      ⊎_elim pruned
      (λ e. ⊎_elim (dried e)
      (λ k. ⊎_elim (quorate e k)
      (λ q. ⊎_elim (λ z. lost e k q (eqb-true (choices n s d c r) 0 z)) (λ z. parted e k q (eqb-false (choices n s d c r) 0 z))
      (either (empty (choices n s d c r))))
      (either (quorum n s d c)))
      (either (dry n s d c r)))
      (either (prune c))

  -- a deeper bound than the open nodes changes nothing
  pub tree_suc : (f c r : ℕ) → c < 2 ^ n → r < 2 ^ n → size n r < f → tree (suc f) c r ≡ tree f c r
  tree_suc zero c r hc hr l = absurd (not-suc-le-zero l)
  tree_suc (suc f) c r hc hr l =
      go (visit c r) (λ c' z hc'. tree_suc f c' (below n s d c r) hc' (below_lt n s d c r) (let w = fewer n s d c r z hr in omega arith))
    where
      go : Visit c r → ((c' : ℕ) → ¬ (choices n s d c r ≡ nobody) → c' < 2 ^ n → tree (suc f) c' (below n s d c r) ≡ tree f c' (below n s d c r))
          → tree (suc (suc f)) c r ≡ tree (suc f) c r
      go (pruned e) ih = tree_pruned (suc f) c r e ∙ sym (tree_pruned f c r e)
      go (dried e k) ih = tree_dry (suc f) c r e k ∙ sym (tree_dry f c r e k)
      go (quorate e k q) ih = tree_quorum (suc f) c r e k q ∙ sym (tree_quorum f c r e k q)
      go (lost e k q z) ih = tree_unsplit (suc f) c r e k q z ∙ sym (tree_unsplit f c r e k q z)
      go (parted e k q z) ih =
          tree_fork (suc f) c r e k q z
          ∙ ap₂ fork (ih c z hc) (ih (c ∪ only (chosen n s d c r)) z (∪-lt n c (only (chosen n s d c r)) hc (only-lt n s d c r z)))
          ∙ sym (tree_fork f c r e k q z)

  -- so at the bound that a search starts with, the visits below a split are trees of the same bound
  pub tree_parts : (c r : ℕ) → c < 2 ^ n → r < 2 ^ n → prune c ≡ false → dry n s d c r ≡ false → quorum n s d c ≡ false → ¬ (choices n s d c r ≡ nobody)
      → tree (suc n) c r ≡ fork (tree (suc n) c (below n s d c r)) (tree (suc n) (c ∪ only (chosen n s d c r)) (below n s d c r))
  tree_parts c r hc hr e k q z =
      let l : size n (below n s d c r) < n = let w = fewer n s d c r z hr in let m = size-le n r in omega arith in
      let b = below_lt n s d c r in
      tree_fork n c r e k q z
      ∙ ap₂ fork (sym (tree_suc n c (below n s d c r) hc b l))
      (sym (tree_suc n (c ∪ only (chosen n s d c r)) (below n s d c r) (∪-lt n c (only (chosen n s d c r)) hc (only-lt n s d c r z)) b l))

  -- ---- whatever is found on the way
  module _ (mono : Monotone s) where
    -- every visit that should split does
    pub tree_splits : ((c : ℕ) → Splits (at_quorum c)) → (f c r : ℕ) → c < 2 ^ n → Splits (tree f c r)
    unfolding quorum_tree
    tree_splits sp zero c r hc = tt
    tree_splits sp (suc f) c r hc = go (visit c r) (λ c' hc'. tree_splits sp f c' (below n s d c r) hc')
      where
        go : Visit c r → ((c' : ℕ) → c' < 2 ^ n → Splits (tree f c' (below n s d c r))) → Splits (tree (suc f) c r)
        go (pruned e) ih = subst Splits (sym (tree_pruned f c r e)) tt
        go (dried e k) ih = subst Splits (sym (tree_dry f c r e k)) tt
        go (quorate e k q) ih = subst Splits (sym (tree_quorum f c r e k q)) (sp c)
        go (lost e k q z) ih = absurd (some_choice n s d c r mono hc k q z)
        go (parted e k q z) ih =
            subst Splits (sym (tree_fork f c r e k q z))
            (ih c hc, ih (c ∪ only (chosen n s d c r)) (∪-lt n c (only (chosen n s d c r)) hc (only-lt n s d c r z)))

  -- a tree of a open nodes has at most 2 ^ (a + 1) - 1 visits
  pub tree_visits : ((c : ℕ) → visits (at_quorum c) ≤ 1) → (f c r : ℕ) → r < 2 ^ n → suc (visits (tree f c r)) ≤ 2 ^ suc (size n r)
  unfolding quorum_tree visits
  tree_visits one zero c r hr = few (size n r)
  tree_visits one (suc f) c r hr = go (visit c r) (λ c'. tree_visits one f c' (below n s d c r) (below_lt n s d c r))
    where
      leaf_few : (t : Tree A) → visits t ≤ 1 → tree (suc f) c r ≡ t → suc (visits (tree (suc f) c r)) ≤ 2 ^ suc (size n r)
      leaf_few t l e = let w = few (size n r) in subst (λ (x : Tree A). suc (visits x) ≤ 2 ^ suc (size n r)) (sym e) (omega arith)

      go : Visit c r → ((c' : ℕ) → suc (visits (tree f c' (below n s d c r))) ≤ 2 ^ suc (size n (below n s d c r))) → suc (visits (tree (suc f) c r)) ≤ 2 ^ suc (size n r)
      go (pruned e) ih = leaf_few leaf (le_refl 1) (tree_pruned f c r e)
      go (dried e k) ih = leaf_few leaf (le_refl 1) (tree_dry f c r e k)
      go (quorate e k q) ih = leaf_few (at_quorum c) (one c) (tree_quorum f c r e k q)
      go (lost e k q z) ih = leaf_few unsplit (le_refl 1) (tree_unsplit f c r e k q z)
      go (parted e k q z) ih =
          let l : suc (size n (below n s d c r)) ≤ size n r = fewer n s d c r z hr in
          let m : 2 ^ suc (size n (below n s d c r)) ≤ 2 ^ size n r = pow_mono l in
          let a = ih c in
          let b = ih (c ∪ only (chosen n s d c r)) in
          let w : 2 ^ suc (size n r) ≡ 2 ^ size n r * 2 = pow-suc 2 (size n r) in
          subst (λ (x : Tree A). suc (visits x) ≤ 2 ^ suc (size n r)) (sym (tree_fork f c r e k q z)) (omega arith)
