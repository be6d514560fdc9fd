-- The verdict's tree finds a pair exactly where two quorums have no node in common. Of two such quorums one, p, has at most half of
-- the ground; the visits with c within p and p within c and r lead down to it: none of them is pruned or dry, and one that comes to a
-- quorum c within p has the other outside it.
use mathlib.Core.Path.{◌≡◌, refl, sym, ap, subst}
use mathlib.Core.Bool.{Bool, true, false, not, ◌&&◌}
use mathlib.Core.Logic.{⊎_elim}
use Prim.Native.Nat.{ℕ, zero, suc, ◌/◌, ◌^◌, ◌≤◌, ◌<◌}
use native.Mathlib.Nat.{not-suc-le-zero}
use native.Mathlib.Omega.{arith}
use borrow.Author.Tests.{eqb-true, eq-eqb, le-ltb}
use lib.Pow.{pow_pos}
use Rattle.sets.specs.Sets.{has, nobody, only, ◌∪◌, ◌∩◌, ◌∖◌, empty, meets, size}
use Rattle.sets.proofs.Bools.{either, clash, and_both, not_fails, fails}
use Rattle.sets.proofs.Members.{In, Sub, has_below, ∪-left, ∪_right, ∪_cases, ∪-lt, ∩_in, ∩_out, ∩-lt, ∖_in, ∖_out, none_in, only_in, only_out, sub_antisym}
use Rattle.sets.proofs.Size.{le-or-lt, sub-size, apart-size, size-le}
use Rattle.sets.proofs.Listing.{Among, among_left, among_right, among_cases}
use Rattle.meanings.specs.Quorums.{whole_ground, quorum, greatest, holds_quorum, intersecting, disjoint_quorums}
use Rattle.meanings.specs.Trees.{Tree, leaf, unsplit, fork, Pair, hit, missed, quorum_tree, over_half, pair_at, verdict_tree, walk}
use Rattle.theory.proofs.Quorum.{Monotone, Quorum, quorum_is, is_quorum, ground-lt, ground_in, intersecting_is, is_intersecting, a_node}
use Rattle.theory.proofs.Greatest.{greatest-sub, greatest-has, greatest-quorum, holds-greatest, greatest-holds}
use Rattle.theory.proofs.Walks.{finds, visits, Splits, maybe_splits, maybe_visits, maybe_found, found_maybe, Stops, at_end, at_find, walk_stops}
use Rattle.theory.proofs.QuorumTree.{reach, choices, chosen, below, dry, no-dry, fewer, below_lt, only-lt, reach_cases, some_choice, Visit, pruned, dried, quorate, lost, parted, visit, tree_pruned, tree_dry, tree_quorum, tree_unsplit, tree_fork, tree_splits, tree_visits}

-- two sets share no node exactly when they do not meet
pub apart_none : (n p q : ℕ) → p < 2 ^ n → ((i : ℕ) → In p i → has q i ≡ false) → p ∩ q ≡ nobody
apart_none n p q h f =
    sub_antisym n (p ∩ q) nobody (∩-lt n p q h) (pow_pos n)
    (λ i x. let w = ∩_out p q i x in clash (has q i) w.1 (f i w.0)) (λ i x. none_in nobody i refl x)

pub meets-not : (p q : ℕ) → p ∩ q ≡ nobody → meets p q ≡ false
unfolding meets
meets-not p q e = ap not (eq-eqb (p ∩ q) 0 e)

pub not-meets : (p q : ℕ) → meets p q ≡ false → p ∩ q ≡ nobody
unfolding meets
not-meets p q e = eqb-true (p ∩ q) 0 (not_fails (empty (p ∩ q)) e)

module _ (n : ℕ) (s : ℕ → ℕ → Bool) (d : ℕ) where
  abbrev tree : ℕ → ℕ → ℕ → Tree Pair
  tree = quorum_tree n s d (over_half n s d) (pair_at n s d)

  -- a part of what has at most half has not more than half
  not_over : (c p : ℕ) → size n p ≤ size n (whole_ground n d) / 2 → Sub c p → over_half n s d c ≡ false
  unfolding over_half
  not_over c p l f = let w = sub-size n c p f in le-ltb (size n (whole_ground n d) / 2) (size n c) (omega arith)

  -- what stands in a find: two quorums with no node in common, the second the greatest outside the first
  pub record Sound (x : Pair) : Type 0 where
    pub first_is : Quorum n s d x.first
    pub second_is : Quorum n s d x.second
    pub apart : x.first ∩ x.second ≡ nobody
    pub largest : x.second ≡ greatest n s d (whole_ground n d ∖ x.first)

  module _ (mono : Monotone s) where
    pair_splits : (c : ℕ) → Splits (pair_at n s d c)
    unfolding pair_at
    pair_splits c = maybe_splits (holds_quorum n s d (whole_ground n d ∖ c)) (record { first = c; second = greatest n s d (whole_ground n d ∖ c) })

    pair_visits : (c : ℕ) → visits (pair_at n s d c) ≤ 1
    unfolding pair_at
    pair_visits c = maybe_visits (holds_quorum n s d (whole_ground n d ∖ c)) (record { first = c; second = greatest n s d (whole_ground n d ∖ c) })

    -- at a quorum c, a find is sound; and where another quorum lies outside c, there is one
    pair_sound : (c : ℕ) (x : Pair) → Quorum n s d c → Among x (finds (pair_at n s d c)) → Sound x
    unfolding pair_at
    pair_sound c x q m =
        let h = greatest n s d (whole_ground n d ∖ c) in
        let w = found_maybe (holds_quorum n s d (whole_ground n d ∖ c)) (record { first = c; second = h }) x m in
        subst Sound (sym w.1)
        (record {
          first_is = q;
          second_is = greatest-quorum n s mono d (whole_ground n d ∖ c) (holds-greatest n s d (whole_ground n d ∖ c) w.0);
          apart = apart_none n c h q.below (λ i p. fails (has h i) (λ y. clash (has c i) p (∖_out (whole_ground n d) c i (greatest-sub n s d (whole_ground n d ∖ c) i y)).1));
          largest = refl;
        })

    pair_found : (c e : ℕ) → Quorum n s d e → ((i : ℕ) → In e i → has c i ≡ false) → (x : Pair) × Among x (finds (pair_at n s d c))
    unfolding pair_at
    pair_found c e q f =
        let x : Pair = record { first = c; second = greatest n s d (whole_ground n d ∖ c) } in
        (x, maybe_found (holds_quorum n s d (whole_ground n d ∖ c)) x (greatest-holds n s d (whole_ground n d ∖ c) there))
      where
        outside : Sub e (whole_ground n d ∖ c)
        outside i p = ∖_in (whole_ground n d) c i (ground_in n d i (has_below n e i q.below p) (q.apart i p)) (f i p)

        there : ¬ (greatest n s d (whole_ground n d ∖ c) ≡ nobody)
        there z =
            let w = a_node n s e q.below q.some_node in
            none_in (greatest n s d (whole_ground n d ∖ c)) w.0 z (greatest-has n s d (whole_ground n d ∖ c) e q outside w.0 w.1)

    -- ---- soundness
    pub finds_sound : (f c r : ℕ) (x : Pair) → Among x (finds (tree f c r)) → Sound x
    unfolding quorum_tree finds
    finds_sound zero c r x m = absurd m
    finds_sound (suc f) c r x m =
        go (visit n s d (over_half n s d) (pair_at n s d) c r) (λ c'. finds_sound f c' (below n s d c r) x)
      where
        cast : (t : Tree Pair) → tree (suc f) c r ≡ t → Among x (finds t)
        cast t e = subst (λ (y : Tree Pair). Among x (finds y)) e m

        go : Visit n s d (over_half n s d) (pair_at n s d) c r → ((c' : ℕ) → Among x (finds (tree f c' (below n s d c r))) → Sound x) → Sound x
        go (pruned e) ih = absurd (cast leaf (tree_pruned n s d (over_half n s d) (pair_at n s d) f c r e))
        go (dried e k) ih = absurd (cast leaf (tree_dry n s d (over_half n s d) (pair_at n s d) f c r e k))
        go (quorate e k q) ih =
            pair_sound c x (quorum_is n s d c q) (cast (pair_at n s d c) (tree_quorum n s d (over_half n s d) (pair_at n s d) f c r e k q))
        go (lost e k q z) ih = absurd (cast unsplit (tree_unsplit n s d (over_half n s d) (pair_at n s d) f c r e k q z))
        go (parted e k q z) ih =
            let b = below n s d c r in
            let c' = c ∪ only (chosen n s d c r) in
            ⊎_elim (ih c) (ih c')
            (among_cases x (finds (tree f c b)) (finds (tree f c' b))
            (cast (fork (tree f c b) (tree f c' b)) (tree_fork n s d (over_half n s d) (pair_at n s d) f c r e k q z)))

    -- ---- completeness: p, with at most half of the ground, and e apart from it
    module _ (p e : ℕ) (qp : Quorum n s d p) (qe : Quorum n s d e) (half : size n p ≤ size n (whole_ground n d) / 2) (apart : (i : ℕ) → In e i → has p i ≡ false) where
      pub finds_some : (f c r : ℕ) → c < 2 ^ n → r < 2 ^ n → size n r < f → Sub c p → Sub p (c ∪ r) → (x : Pair) × Among x (finds (tree f c r))
      unfolding finds
      finds_some zero c r hc hr l cp pr = absurd (not-suc-le-zero l)
      finds_some (suc f) c r hc hr l cp pr =
          go (visit n s d (over_half n s d) (pair_at n s d) c r)
          (λ c' hc' z. finds_some f c' (below n s d c r) hc' (below_lt n s d c r) (let w = fewer n s d c r z hr in omega arith))
        where
          v : ℕ
          v = chosen n s d c r

          b : ℕ
          b = below n s d c r

          in_reach : Sub p (reach n s d c r)
          in_reach = greatest-has n s d (c ∪ r) p qp pr

          reach-some : ¬ (reach n s d c r ≡ nobody)
          reach-some z = let w = a_node n s p qp.below qp.some_node in none_in (reach n s d c r) w.0 z (in_reach w.0 w.1)

          not-dry : dry n s d c r ≡ false
          not-dry = no-dry n s d c r hc reach-some (λ i x. in_reach i (cp i x))

          cast : (t : Tree Pair) → tree (suc f) c r ≡ t → (x : Pair) × Among x (finds t) → (x : Pair) × Among x (finds (tree (suc f) c r))
          cast t k w = (w.0, subst (λ (y : Tree Pair). Among w.0 (finds y)) (sym k) w.1)

          -- p is within c and what is open below, or within those with the node chosen
          without_v : ¬ (choices n s d c r ≡ nobody) → has p v ≡ false → Sub p (c ∪ b)
          without_v z k i x =
              ⊎_elim
              (⊎_elim (λ y. ∪-left c b i y) (λ y. clash (has p v) (subst (In p) y x) k))
              (λ y. ∪_right c b i y)
              (reach_cases n s d c r z i (in_reach i x))

          with_v : ¬ (choices n s d c r ≡ nobody) → Sub p ((c ∪ only v) ∪ b)
          with_v z i x =
              ⊎_elim
              (⊎_elim (λ y. ∪-left (c ∪ only v) b i (∪-left c (only v) i y))
              (λ y. ∪-left (c ∪ only v) b i (∪_right c (only v) i (subst (In (only v)) (sym y) (only_in v)))))
              (λ y. ∪_right (c ∪ only v) b i y)
              (reach_cases n s d c r z i (in_reach i x))

          v_within : In p v → Sub (c ∪ only v) p
          v_within k i x = ⊎_elim (cp i) (λ y. subst (In p) (sym (only_out i v y)) k) (∪_cases c (only v) i x)

          go : Visit n s d (over_half n s d) (pair_at n s d) c r
              → ((c' : ℕ) → c' < 2 ^ n → ¬ (choices n s d c r ≡ nobody) → Sub c' p → Sub p (c' ∪ b) → (x : Pair) × Among x (finds (tree f c' b)))
              → (x : Pair) × Among x (finds (tree (suc f) c r))
          go (pruned k) ih = clash (over_half n s d c) k (not_over c p half cp)
          go (dried k k') ih = clash (dry n s d c r) k' not-dry
          go (quorate k k' q) ih =
              cast (pair_at n s d c) (tree_quorum n s d (over_half n s d) (pair_at n s d) f c r k k' q)
              (pair_found c e qe (λ i x. fails (has c i) (λ y. clash (has p i) (cp i y) (apart i x))))
          go (lost k k' q z) ih = absurd (some_choice n s d c r mono hc k' q z)
          go (parted k k' q z) ih =
              cast (fork (tree f c b) (tree f (c ∪ only v) b)) (tree_fork n s d (over_half n s d) (pair_at n s d) f c r k k' q z)
              (⊎_elim
              (λ x. let w = ih (c ∪ only v) (∪-lt n c (only v) hc (only-lt n s d c r z)) z (v_within x) (with_v z) in
              (w.0, among_right w.0 (finds (tree f c b)) (finds (tree f (c ∪ only v) b)) w.1))
              (λ x. let w = ih c hc z cp (without_v z x) in
              (w.0, among_left w.0 (finds (tree f c b)) (finds (tree f (c ∪ only v) b)) w.1))
              (either (has p v)))

    -- ---- the verdict
    pub verdict_splits : Splits (verdict_tree n s d)
    unfolding verdict_tree
    verdict_splits = tree_splits n s d (over_half n s d) (pair_at n s d) mono pair_splits (suc n) nobody (whole_ground n d) (pow_pos n)

    pub verdict_visits : suc (visits (verdict_tree n s d)) ≤ 2 ^ suc (size n (whole_ground n d))
    unfolding verdict_tree
    verdict_visits = tree_visits n s d (over_half n s d) (pair_at n s d) pair_visits (suc n) nobody (whole_ground n d) (ground-lt n d)

    pub verdict_sound : (x : Pair) → Among x (finds (verdict_tree n s d)) → Sound x
    unfolding verdict_tree
    verdict_sound x m = finds_sound (suc n) nobody (whole_ground n d) x m

    -- two quorums with no node in common: the tree finds a pair
    pub verdict_complete : (p q : ℕ) → Quorum n s d p → Quorum n s d q → p ∩ q ≡ nobody → (x : Pair) × Among x (finds (verdict_tree n s d))
    unfolding verdict_tree
    verdict_complete p q a b e =
        let sum = apart-size n p q (whole_ground n d) (in_ground p a) (in_ground q b) e in
        ⊎_elim
        (λ (l : size n p ≤ size n (whole_ground n d) / 2).
        finds_some p q a b l (λ i x. fails (has p i) (λ y. none_in (p ∩ q) i e (∩_in p q i y x))) (suc n) nobody (whole_ground n d) (pow_pos n) (ground-lt n d)
        (size_fits (whole_ground n d)) (λ i x. none_in nobody i refl x) (λ i x. ∪_right nobody (whole_ground n d) i (in_ground p a i x)))
        (λ (l : size n (whole_ground n d) / 2 < size n p).
        finds_some q p b a (omega arith) (λ i x. fails (has q i) (λ y. none_in (p ∩ q) i e (∩_in p q i x y))) (suc n) nobody (whole_ground n d) (pow_pos n) (ground-lt n d)
        (size_fits (whole_ground n d)) (λ i x. none_in nobody i refl x) (λ i x. ∪_right nobody (whole_ground n d) i (in_ground q b i x)))
        (le-or-lt (size n p) (size n (whole_ground n d) / 2))
      where
        in_ground : (u : ℕ) → Quorum n s d u → Sub u (whole_ground n d)
        in_ground u w i x = ground_in n d i (has_below n u i w.below x) (w.apart i x)

        size_fits : (u : ℕ) → size n u < suc n
        size_fits u = let w = size-le n u in omega arith

    -- a find is two quorums with no node in common, as the definition says
    pub sound_disjoint : (x : Pair) → Sound x → disjoint_quorums n s d x.first x.second ≡ true
    unfolding disjoint_quorums
    sound_disjoint x w =
        and_both (quorum n s d x.first && quorum n s d x.second) (not (meets x.first x.second))
        (and_both (quorum n s d x.first) (quorum n s d x.second) (is_quorum n s d x.first w.first_is) (is_quorum n s d x.second w.second_is))
        (ap not (meets-not x.first x.second w.apart))

    -- Yes exactly when every two quorums share a node; otherwise a pair of quorums with no node in common.
    pub data Decided : Type 0 where
      all_meet : (k : ℕ) → walk (verdict_tree n s d) ≡ missed k → intersecting n s d ≡ true → suc k ≤ 2 ^ suc (size n (whole_ground n d)) → Decided
      two_apart : (x : Pair) (k : ℕ) → walk (verdict_tree n s d) ≡ hit x k → Sound x → intersecting n s d ≡ false → suc k ≤ 2 ^ suc (size n (whole_ground n d)) → Decided

    pub decided : Decided
    decided = go (walk_stops (verdict_tree n s d) verdict_splits)
      where
        go : Stops (verdict_tree n s d) → Decided
        go (at_end e z) =
            all_meet (visits (verdict_tree n s d)) e
            (is_intersecting n s d (λ p q a b.
            ⊎_elim (λ m. m)
            (λ m. let w = verdict_complete p q a b (not-meets p q m) in absurd (subst (Among w.0) z w.1))
            (either (meets p q))))
            verdict_visits
        go (at_find x k e m l h) =
            let w = verdict_sound x m in
            two_apart x k e w
            (fails (intersecting n s d) (λ i.
            clash (meets x.first x.second) (intersecting_is n s d i x.first x.second w.first_is w.second_is) (meets-not x.first x.second w.apart)))
            (let v = verdict_visits in omega arith)
