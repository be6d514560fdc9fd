-- The tree of the minimal quorums lists each of them once, in the listing order. Below a visit (c, r) lie exactly the minimal
-- quorums that hold c and lie within c and r. At a split on v those without v come first, and v is the lowest node at which one
-- without and one with it differ: a lower node is in c, and so in both, or out of reach, and so in neither.
use mathlib.Core.Path.{◌≡◌, refl, sym, ap, ◌∙◌, subst}
use mathlib.Core.Bool.{Bool, true, false, not, ◌&&◌}
use mathlib.Core.Logic.{⊎_elim}
use Prim.Native.Nat.{ℕ, zero, suc, ◌^◌, ◌≤◌, ◌<◌}
use native.Mathlib.Nat.{not-suc-le-zero}
use native.Mathlib.Omega.{arith}
use borrow.Author.Tests.{eqb-true, eqb-false}
use lib.Dec.{eqb}
use lib.Pow.{pow_pos}
use Rattle.sets.specs.Sets.{has, nobody, everyone, only, ◌∪◌, within, smaller, size}
use Rattle.sets.specs.Listing.{some_set, sets_that}
use Rattle.sets.proofs.Bools.{either, clash, and_parts, and_both, not-holds, bool_ext, fails}
use Rattle.sets.proofs.Members.{In, Sub, ∪-left, ∪_right, ∪_cases, ∪-lt, ∖_in, ∖_out, none_in, only_in, only_out, everyone-lt, everyone-all, within-sub, sub_within}
use Rattle.sets.proofs.Size.{size-le}
use Rattle.sets.proofs.Lowest.{lowest_first}
use Rattle.sets.proofs.Listing.{Among, among_left, among_right, among_cases, some_set_at, at_some_set, sets_that_in, sets_that_out}
use Rattle.sets.proofs.Order.{Ahead, Rising, rising_append, rising_same, sets_that_rise}
use Rattle.meanings.specs.Quorums.{quorum, minimal_quorum, minimal_quorums}
use Rattle.meanings.specs.Trees.{Tree, leaf, unsplit, fork, listed, found_if, quorum_tree, minimal_tree, list}
use Rattle.theory.proofs.Quorum.{Monotone, Quorum, quorum_is, is_quorum, a_node}
use Rattle.theory.proofs.Greatest.{greatest-has}
use Rattle.theory.proofs.Walks.{finds, visits, Splits, maybe_splits, maybe_visits, maybe_found, found_maybe, list_all}
use Rattle.theory.proofs.QuorumTree.{reach, choices, chosen, below, dry, dry-no, no-dry, fewer, below_lt, only-lt, choices_open, chosen_in, reach_cases, some_choice, Visit, pruned, dried, quorate, lost, parted, visit, tree_dry, tree_quorum, tree_unsplit, tree_fork, tree_splits, tree_visits}

-- a set that lies within another and is not smaller is the same
pub within_same : (n a b : ℕ) → a < 2 ^ n → Sub a b → smaller a b ≡ false → a ≡ b
unfolding smaller
within_same n a b h f e =
    ⊎_elim (λ x. eqb-true a b x) (λ x. clash (within a b && not (eqb a b)) (and_both (within a b) (not (eqb a b)) (sub_within n a b h f) (ap not x)) e)
    (either (eqb a b))

pub smaller_is : (a b : ℕ) → smaller a b ≡ true → Sub a b × ¬ (a ≡ b)
unfolding smaller
smaller_is a b e =
    let w = and_parts (within a b) (not (eqb a b)) e in
    (within-sub a b w.0, eqb-false a b (not-holds (eqb a b) w.1))

-- a leaf lists one set at the most
pub one_rises : (b : Bool) (c : ℕ) → Rising (finds (found_if b c))
unfolding finds
one_rises true c = ((λ x m. absurd m), tt)
one_rises false c = tt

module _ (n : ℕ) (s : ℕ → ℕ → Bool) where
  -- a minimal quorum is a quorum, and every quorum in it is itself
  pub record Minimal (u : ℕ) : Type 0 where
    pub is : Quorum n s nobody u
    pub least : (q : ℕ) → Quorum n s nobody q → Sub q u → q ≡ u

  pub minimal_is : (u : ℕ) → minimal_quorum n s u ≡ true → Minimal u
  unfolding minimal_quorum
  minimal_is u e =
      let w = and_parts (quorum n s nobody u) (not (some_set n (λ q. quorum n s nobody q && smaller q u))) e in
      record {
        is = quorum_is n s nobody u w.0;
        least = λ q a f. within_same n q u a.below f
            (fails (smaller q u) (λ x.
            clash (some_set n (λ q. quorum n s nobody q && smaller q u))
            (at_some_set n (λ q. quorum n s nobody q && smaller q u) q a.below (and_both (quorum n s nobody q) (smaller q u) (is_quorum n s nobody q a) x))
            (not-holds (some_set n (λ q. quorum n s nobody q && smaller q u)) w.1)));
      }

  pub is_minimal_lem : (u : ℕ) → Minimal u → minimal_quorum n s u ≡ true
  unfolding minimal_quorum
  is_minimal_lem u m =
      and_both (quorum n s nobody u) (not (some_set n (λ q. quorum n s nobody q && smaller q u))) (is_quorum n s nobody u m.is)
      (ap not (fails (some_set n (λ q. quorum n s nobody q && smaller q u)) (λ x.
      let w = some_set_at n (λ q. quorum n s nobody q && smaller q u) x in
      let v = and_parts (quorum n s nobody w.0) (smaller w.0 u) w.2 in
      let k = smaller_is w.0 u v.1 in
      k.1 (m.least w.0 (quorum_is n s nobody w.0 v.0) k.0))))

  abbrev at_minimal : ℕ → Tree ℕ
  at_minimal c = found_if (minimal_quorum n s c) c

  abbrev never : ℕ → Bool
  never c = false

  abbrev tree : ℕ → ℕ → ℕ → Tree ℕ
  tree = quorum_tree n s nobody never at_minimal

  -- ---- what is listed below (c, r) is a minimal quorum that holds c and lies within c and r
  pub record Between (c r q : ℕ) : Type 0 where
    pub minimal : Minimal q
    pub holds : Sub c q
    pub within_both : Sub q (c ∪ r)

  pub finds_between : (f c r q : ℕ) → Among q (finds (tree f c r)) → Between c r q
  unfolding quorum_tree finds
  finds_between zero c r q m = absurd m
  finds_between (suc f) c r q m = go (visit n s nobody never at_minimal c r) (λ c'. finds_between f c' (below n s nobody c r) q)
    where
      b : ℕ
      b = below n s nobody c r

      v : ℕ
      v = chosen n s nobody c r

      cast : (t : Tree ℕ) → tree (suc f) c r ≡ t → Among q (finds t)
      cast t e = subst (λ (y : Tree ℕ). Among q (finds y)) e m

      into_reach : dry n s nobody c r ≡ false → ¬ (choices n s nobody c r ≡ nobody) → Sub ((c ∪ only v) ∪ b) (c ∪ r)
      into_reach k z i x =
          let open_in : Sub (choices n s nobody c r) r = choices_open n s nobody c r in
          ⊎_elim
          (λ y. ⊎_elim (λ w. ∪-left c r i w)
          (λ w. ∪_right c r i (open_in i (subst (In (choices n s nobody c r)) (sym (only_out i v w)) (chosen_in n s nobody c r z))))
          (∪_cases c (only v) i y))
          (λ y. ∪_right c r i (open_in i (∖_out (choices n s nobody c r) (only v) i y).0))
          (∪_cases (c ∪ only v) b i x)

      go : Visit n s nobody never at_minimal c r → ((c' : ℕ) → Among q (finds (tree f c' b)) → Between c' b q) → Between c r q
      go (pruned e) ih = clash false e refl
      go (dried e k) ih = absurd (cast leaf (tree_dry n s nobody never at_minimal f c r e k))
      go (quorate e k w) ih =
          let p = found_maybe (minimal_quorum n s c) c q (cast (at_minimal c) (tree_quorum n s nobody never at_minimal f c r e k w)) in
          record {
            minimal = subst Minimal (sym p.1) (minimal_is c p.0);
            holds = λ i x. subst (λ (y : ℕ). In y i) (sym p.1) x;
            within_both = λ i x. ∪-left c r i (subst (λ (y : ℕ). In y i) p.1 x);
          }
      go (lost e k w z) ih = absurd (cast unsplit (tree_unsplit n s nobody never at_minimal f c r e k w z))
      go (parted e k w z) ih =
          ⊎_elim
          (λ x. let p = ih c x in
          record {
            minimal = p.minimal;
            holds = p.holds;
            within_both = λ i y. into_reach k z i (⊎_elim (λ a. ∪-left (c ∪ only v) b i (∪-left c (only v) i a)) (λ a. ∪_right (c ∪ only v) b i a) (∪_cases c b i (p.within_both i y)));
          })
          (λ x. let p = ih (c ∪ only v) x in
          record { minimal = p.minimal; holds = λ i y. p.holds i (∪-left c (only v) i y); within_both = λ i y. into_reach k z i (p.within_both i y) })
          (among_cases q (finds (tree f c b)) (finds (tree f (c ∪ only v) b))
          (cast (fork (tree f c b) (tree f (c ∪ only v) b)) (tree_fork n s nobody never at_minimal f c r e k w z)))

  module _ (mono : Monotone s) where
    -- ---- and each of them is
    pub between_finds : (f c r q : ℕ) → c < 2 ^ n → r < 2 ^ n → size n r < f → Between c r q → Among q (finds (tree f c r))
    unfolding finds
    between_finds zero c r q hc hr l w = absurd (not-suc-le-zero l)
    between_finds (suc f) c r q hc hr l m =
        go (visit n s nobody never at_minimal c r)
        (λ c' hc' z. between_finds f c' (below n s nobody c r) q hc' (below_lt n s nobody c r) (let w = fewer n s nobody c r z hr in omega arith))
      where
        b : ℕ
        b = below n s nobody c r

        v : ℕ
        v = chosen n s nobody c r

        in_reach : Sub q (reach n s nobody c r)
        in_reach = greatest-has n s nobody (c ∪ r) q m.minimal.is m.within_both

        not-dry : dry n s nobody c r ≡ false
        not-dry =
            no-dry n s nobody c r hc
            (λ z. let w = a_node n s q m.minimal.is.below m.minimal.is.some_node in none_in (reach n s nobody c r) w.0 z (in_reach w.0 w.1))
            (λ i x. in_reach i (m.holds i x))

        cast : (t : Tree ℕ) → tree (suc f) c r ≡ t → Among q (finds t) → Among q (finds (tree (suc f) c r))
        cast t e x = subst (λ (y : Tree ℕ). Among q (finds y)) (sym e) x

        go : Visit n s nobody never at_minimal c r
            → ((c' : ℕ) → c' < 2 ^ n → ¬ (choices n s nobody c r ≡ nobody) → Between c' b q → Among q (finds (tree f c' b)))
            → Among q (finds (tree (suc f) c r))
        go (pruned e) ih = clash false e refl
        go (dried e k) ih = clash (dry n s nobody c r) k not-dry
        go (quorate e k w) ih =
            let same : c ≡ q = m.minimal.least c (quorum_is n s nobody c w) m.holds in
            cast (at_minimal c) (tree_quorum n s nobody never at_minimal f c r e k w)
            (subst (λ (y : ℕ). Among y (finds (at_minimal c))) same
            (maybe_found (minimal_quorum n s c) c (is_minimal_lem c (subst Minimal (sym same) m.minimal))))
        go (lost e k w z) ih = absurd (some_choice n s nobody c r mono hc k w z)
        go (parted e k w z) ih =
            cast (fork (tree f c b) (tree f (c ∪ only v) b)) (tree_fork n s nobody never at_minimal f c r e k w z)
            (⊎_elim
            (λ x. among_right q (finds (tree f c b)) (finds (tree f (c ∪ only v) b))
            (ih (c ∪ only v) (∪-lt n c (only v) hc (only-lt n s nobody c r z)) z
            (record {
              minimal = m.minimal;
              holds = λ i y. ⊎_elim (m.holds i) (λ a. subst (In q) (sym (only_out i v a)) x) (∪_cases c (only v) i y);
              within_both = λ i y. ⊎_elim
                  (⊎_elim (λ a. ∪-left (c ∪ only v) b i (∪-left c (only v) i a)) (λ a. ∪-left (c ∪ only v) b i (∪_right c (only v) i (subst (In (only v)) (sym a) (only_in v)))))
                  (λ a. ∪_right (c ∪ only v) b i a)
                  (reach_cases n s nobody c r z i (in_reach i y));
            })))
            (λ x. among_left q (finds (tree f c b)) (finds (tree f (c ∪ only v) b))
            (ih c hc z
            (record {
              minimal = m.minimal;
              holds = m.holds;
              within_both = λ i y. ⊎_elim
                  (⊎_elim (λ a. ∪-left c b i a) (λ a. clash (has q v) (subst (In q) a y) x))
                  (λ a. ∪_right c b i a)
                  (reach_cases n s nobody c r z i (in_reach i y));
            })))
            (either (has q v)))

  -- ---- in the listing order
  module _ (c r : ℕ) (k : dry n s nobody c r ≡ false) (z : ¬ (choices n s nobody c r ≡ nobody)) where
    b : ℕ
    b = below n s nobody c r

    v : ℕ
    v = chosen n s nobody c r

    v_in : In (choices n s nobody c r) v
    unfolding v
    v_in = chosen_in n s nobody c r z

    -- without v
    lacks_v : (q : ℕ) → Sub q (c ∪ b) → has q v ≡ false
    unfolding v b
    lacks_v q f =
        fails (has q v) (λ x.
        ⊎_elim
        (λ y. clash (has c v) y (∖_out (reach n s nobody c r) c v v_in).1)
        (λ y. clash (has (only v) v) (only_in v) (∖_out (choices n s nobody c r) (only v) v y).1)
        (∪_cases c b v (f v x)))

    -- a node lower than v is in q, where q holds c and is in reach, exactly when it is in c
    low_in : (q i : ℕ) → i < v → Sub c q → Sub q (reach n s nobody c r) → has q i ≡ has c i
    unfolding v
    low_in q i l f g =
        bool_ext (has q i) (has c i)
        (λ x. ⊎_elim (λ y. y)
        (λ y. clash (has (choices n s nobody c r) i) (∖_in (reach n s nobody c r) c i (g i x) y) (lowest_first n (choices n s nobody c r) i l))
        (either (has c i)))
        (f i)

    reach_c : Sub c (reach n s nobody c r)
    reach_c = (dry-no n s nobody c r k).1

    reach-b : Sub b (reach n s nobody c r)
    unfolding b
    reach-b i x = (∖_out (reach n s nobody c r) c i (∖_out (choices n s nobody c r) (only (chosen n s nobody c r)) i x).0).0

    reach_v : In (reach n s nobody c r) v
    reach_v = (∖_out (reach n s nobody c r) c v v_in).0

    ahead : (q q' : ℕ) → Between c b q → Between (c ∪ only v) b q' → Ahead q q'
    ahead q q' x y =
        record {
          where_at = v;
          lacks = lacks_v q x.within_both;
          holds = y.holds v (∪_right c (only v) v (only_in v));
          alike = λ i l.
              low_in q i l x.holds (λ j p. ⊎_elim (reach_c j) (reach-b j) (∪_cases c b j (x.within_both j p)))
              ∙ sym (low_in q' i l (λ j p. y.holds j (∪-left c (only v) j p))
              (λ j p. ⊎_elim (λ w. ⊎_elim (reach_c j) (λ u. subst (In (reach n s nobody c r)) (sym (only_out j v u)) reach_v) (∪_cases c (only v) j w)) (reach-b j)
              (∪_cases (c ∪ only v) b j (y.within_both j p))));
        }

  pub finds_rise : (f c r : ℕ) → Rising (finds (tree f c r))
  unfolding quorum_tree finds b v
  finds_rise zero c r = tt
  finds_rise (suc f) c r = go (visit n s nobody never at_minimal c r) (λ c'. finds_rise f c' (below n s nobody c r))
    where
      cast : (t : Tree ℕ) → tree (suc f) c r ≡ t → Rising (finds t) → Rising (finds (tree (suc f) c r))
      cast t e x = subst (λ (y : Tree ℕ). Rising (finds y)) (sym e) x

      go : Visit n s nobody never at_minimal c r → ((c' : ℕ) → Rising (finds (tree f c' (below n s nobody c r)))) → Rising (finds (tree (suc f) c r))
      go (pruned e) ih = clash false e refl
      go (dried e k) ih = cast leaf (tree_dry n s nobody never at_minimal f c r e k) tt
      go (quorate e k w) ih = cast (at_minimal c) (tree_quorum n s nobody never at_minimal f c r e k w) (one_rises (minimal_quorum n s c) c)
      go (lost e k w z) ih = cast unsplit (tree_unsplit n s nobody never at_minimal f c r e k w z) tt
      go (parted e k w z) ih =
          let b' = below n s nobody c r in
          let c' = c ∪ only (chosen n s nobody c r) in
          cast (fork (tree f c b') (tree f c' b')) (tree_fork n s nobody never at_minimal f c r e k w z)
          (rising_append (finds (tree f c b')) (finds (tree f c' b')) (ih c) (ih c')
          (λ q q' x y. ahead c r k z q q' (finds_between f c b' q x) (finds_between f c' b' q' y)))

  -- ---- the list
  module _ (mono : Monotone s) where
    pub minimal_finds : finds (minimal_tree n s) ≡ minimal_quorums n s
    unfolding minimal_tree minimal_quorums
    minimal_finds =
        rising_same (finds (tree (suc n) nobody (everyone n))) (sets_that n (minimal_quorum n s)) (finds_rise (suc n) nobody (everyone n)) (sets_that_rise n (minimal_quorum n s))
        (λ q m. let w = finds_between (suc n) nobody (everyone n) q m in
        sets_that_in n (minimal_quorum n s) q w.minimal.is.below (is_minimal_lem q w.minimal))
        (λ q m.
        let w = sets_that_out n (minimal_quorum n s) q m in
        between_finds mono (suc n) nobody (everyone n) q (pow_pos n) (everyone-lt n) (let l = size-le n (everyone n) in omega arith)
        (record { minimal = minimal_is q w.1; holds = λ i x. none_in nobody i refl x; within_both = λ i x. ∪_right nobody (everyone n) i (everyone-all n q w.0 i x) }))

    pub minimal_splits : Splits (minimal_tree n s)
    unfolding minimal_tree
    minimal_splits = tree_splits n s nobody never at_minimal mono (λ c. maybe_splits (minimal_quorum n s c) c) (suc n) nobody (everyone n) (pow_pos n)

    -- The tree lists exactly the minimal quorums, each once, in the listing order.
    pub minimal_listed : list (minimal_tree n s) ≡ listed (minimal_quorums n s) (visits (minimal_tree n s))
    minimal_listed = list_all (minimal_tree n s) minimal_splits ∙ ap (λ l. listed l (visits (minimal_tree n s))) minimal_finds

  pub minimal_visits : suc (visits (minimal_tree n s)) ≤ 2 ^ suc (size n (everyone n))
  unfolding minimal_tree
  minimal_visits = tree_visits n s nobody never at_minimal (λ c. maybe_visits (minimal_quorum n s c) c) (suc n) nobody (everyone n) (everyone-lt n)
