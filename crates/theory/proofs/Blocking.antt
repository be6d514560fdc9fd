-- The tree of the minimal blocking sets lists each of them once, in the listing order. Below a visit (c, r) lie exactly those that
-- hold c and lie within c and r. A minimal blocking set that holds c has, besides c, only nodes of the greatest quorum outside c;
-- so at a split on v, the lowest such node that is open, a lower node is in such a set exactly when it is in c.
use mathlib.Core.Path.{◌≡◌, refl, sym, ap, ap₂, ◌∙◌, subst}
use mathlib.Core.Bool.{Bool, true, false, not, ◌&&◌}
use mathlib.Core.Logic.{◌⊎◌, inl, inr, ⊎_elim}
use Prim.Native.Nat.{ℕ, zero, suc, ◌*◌, ◌^◌, ◌≤◌, ◌<◌}
use native.Mathlib.Nat.{not-suc-le-zero, le_refl, pow-suc}
use native.Mathlib.Omega.{arith}
use borrow.Author.Tests.{eqb-true, eqb-false, eq-eqb, ne_eqb}
use lib.Pow.{pow_pos, pow-lt, pow_mono}
use Rattle.sets.specs.Sets.{has, nobody, everyone, only, ◌∪◌, ◌∩◌, ◌∖◌, empty, within, smaller, size, lowest}
use Rattle.sets.specs.Listing.{some_set, sets_that}
use Rattle.sets.proofs.Bools.{either, clash, and_parts, and_both, not-holds, not_fails, bool_ext, fails}
use Rattle.sets.proofs.Members.{In, Sub, has_below, has-everyone, ∪-left, ∪_right, ∪_cases, ∪-lt, ∩_in, ∩_out, ∩-lt, ∖_in, ∖_out, ∖-lt, none_in, only_in, only_out, everyone-lt, everyone-all, within-sub}
use Rattle.sets.proofs.Size.{size-le, size-lt}
use Rattle.sets.proofs.Lowest.{lowest_in, lowest-lt, lowest_first}
use Rattle.sets.proofs.Listing.{Among, among_left, among_right, among_cases, some_set_at, at_some_set, sets_that_in, sets_that_out}
use Rattle.sets.proofs.Order.{Ahead, Rising, rising_append, rising_same, sets_that_rise}
use Rattle.meanings.specs.Quorums.{quorum, greatest, holds_quorum, blocking_set, minimal_blocking, minimal_blocking_sets}
use Rattle.meanings.specs.Trees.{Tree, leaf, unsplit, fork, listed, found_if, blocking_from, blocking_tree, list}
use Rattle.theory.proofs.Quorum.{Monotone, Quorum, quorum_is, a_node}
use Rattle.theory.proofs.Greatest.{greatest-sub, greatest-has, greatest-quorum, holds-greatest, greatest-holds}
use Rattle.theory.proofs.Walks.{finds, visits, Splits, maybe_splits, maybe_visits, maybe_found, found_maybe, list_all}
use Rattle.theory.proofs.QuorumTree.{few}
use Rattle.theory.proofs.Minimal.{within_same, smaller_is, one_rises}

module _ (n : ℕ) (s : ℕ → ℕ → Bool) where
  -- ---- blocking sets: no quorum lies outside
  abbrev pub Blocks : ℕ → Type 0
  Blocks b = (q : ℕ) → Quorum n s nobody q → ((i : ℕ) → In q i → has b i ≡ false) → ⊥

  outside_in : (b q : ℕ) → Quorum n s nobody q → ((i : ℕ) → In q i → has b i ≡ false) → Sub q (everyone n ∖ b)
  outside_in b q a f i p = ∖_in (everyone n) b i (has-everyone n i (has_below n q i a.below p)) (f i p)

  pub blocking_is : (b : ℕ) → blocking_set n s b ≡ true → Blocks b
  unfolding blocking_set
  blocking_is b e q a f =
      let w = a_node n s q a.below a.some_node in
      clash (holds_quorum n s nobody (everyone n ∖ b))
      (greatest-holds n s nobody (everyone n ∖ b) (λ z.
      none_in (greatest n s nobody (everyone n ∖ b)) w.0 z (greatest-has n s nobody (everyone n ∖ b) q a (outside_in b q a f) w.0 w.1)))
      (not-holds (holds_quorum n s nobody (everyone n ∖ b)) e)

  -- a set that holds a quorum has one
  pub a_quorum : (u : ℕ) → holds_quorum n s nobody u ≡ true → (q : ℕ) × Quorum n s nobody q × Sub q u
  unfolding holds_quorum
  a_quorum u e =
      let w = some_set_at n (λ q. quorum n s nobody q && within q u) e in
      let v = and_parts (quorum n s nobody w.0) (within w.0 u) w.2 in
      (w.0, quorum_is n s nobody w.0 v.0, within-sub w.0 u v.1)

  pub is_blocking : (b : ℕ) → Blocks b → blocking_set n s b ≡ true
  unfolding blocking_set
  is_blocking b f =
      ap not (fails (holds_quorum n s nobody (everyone n ∖ b)) (λ e.
      let w = a_quorum (everyone n ∖ b) e in
      f w.0 w.1 (λ i p. (∖_out (everyone n) b i (w.2 i p)).1)))

  pub record MinimalBlocking (b : ℕ) : Type 0 where
    pub bound : b < 2 ^ n
    pub is : Blocks b
    pub least : (c : ℕ) → c < 2 ^ n → Blocks c → Sub c b → c ≡ b

  pub minimal_is : (b : ℕ) → b < 2 ^ n → minimal_blocking n s b ≡ true → MinimalBlocking b
  unfolding minimal_blocking
  minimal_is b h e =
      let w = and_parts (blocking_set n s b) (not (some_set n (λ c. blocking_set n s c && smaller c b))) e in
      record {
        bound = h;
        is = blocking_is b w.0;
        least = λ c l x f. within_same n c b l f
            (fails (smaller c b) (λ y.
            clash (some_set n (λ c. blocking_set n s c && smaller c b))
            (at_some_set n (λ c. blocking_set n s c && smaller c b) c l (and_both (blocking_set n s c) (smaller c b) (is_blocking c x) y))
            (not-holds (some_set n (λ c. blocking_set n s c && smaller c b)) w.1)));
      }

  pub is_minimal_lem : (b : ℕ) → MinimalBlocking b → minimal_blocking n s b ≡ true
  unfolding minimal_blocking
  is_minimal_lem b m =
      and_both (blocking_set n s b) (not (some_set n (λ c. blocking_set n s c && smaller c b))) (is_blocking b m.is)
      (ap not (fails (some_set n (λ c. blocking_set n s c && smaller c b)) (λ x.
      let w = some_set_at n (λ c. blocking_set n s c && smaller c b) x in
      let v = and_parts (blocking_set n s w.0) (smaller w.0 b) w.2 in
      let k = smaller_is w.0 b v.1 in
      k.1 (m.least w.0 w.1 (blocking_is w.0 v.0) k.0))))

  -- a minimal blocking set that holds c has, besides c, only nodes of the greatest quorum outside c
  pub beside : (c b : ℕ) → c < 2 ^ n → Sub c b → MinimalBlocking b → Sub b (c ∪ greatest n s nobody (everyone n ∖ c))
  beside c b h f m =
      let g = greatest n s nobody (everyone n ∖ c) in
      let b' = c ∪ (b ∩ g) in
      let blocks' : Blocks b' = λ q a x.
      let in_g : Sub q g = greatest-has n s nobody (everyone n ∖ c) q a (outside_in c q a (λ i p. fails (has c i) (λ y. clash (has b' i) (∪-left c (b ∩ g) i y) (x i p)))) in
      m.is q a (λ i p. fails (has b i) (λ y. clash (has b' i) (∪_right c (b ∩ g) i (∩_in b g i y (in_g i p))) (x i p))) in
      let same : b' ≡ b = m.least b' (∪-lt n c (b ∩ g) h (∩-lt n b g m.bound)) blocks' (λ i p. ⊎_elim (f i) (λ y. (∩_out b g i y).0) (∪_cases c (b ∩ g) i p)) in
      λ i p. ⊎_elim (λ y. ∪-left c g i y) (λ y. ∪_right c g i (∩_out b g i y).1) (∪_cases c (b ∩ g) i (subst (λ (x : ℕ). In x i) (sym same) p))

  -- ---- a visit
  module _ (c r : ℕ) where
    abbrev pub shut : Bool
    shut = holds_quorum n s nobody (everyone n ∖ (c ∪ r))

    abbrev pub choices : ℕ
    choices = r ∩ greatest n s nobody (everyone n ∖ c)

    abbrev pub chosen : ℕ
    chosen = lowest n choices

    abbrev pub rest : ℕ
    rest = r ∖ only chosen

    pub choices_lt : r < 2 ^ n → choices < 2 ^ n
    choices_lt h = ∩-lt n r (greatest n s nobody (everyone n ∖ c)) h

    pub rest_lt : r < 2 ^ n → rest < 2 ^ n
    rest_lt h = ∖-lt n r (only chosen) h

    module _ (h : r < 2 ^ n) (z : ¬ (choices ≡ nobody)) where
      pub chosen_in : In choices chosen
      chosen_in = lowest_in n choices (choices_lt h) z

      pub chosen_open : In r chosen
      chosen_open = (∩_out r (greatest n s nobody (everyone n ∖ c)) chosen chosen_in).0

      pub chosen_new : has c chosen ≡ false
      chosen_new =
          (∖_out (everyone n) c chosen
          (greatest-sub n s nobody (everyone n ∖ c) chosen (∩_out r (greatest n s nobody (everyone n ∖ c)) chosen chosen_in).1)).1

      pub only-lt : only chosen < 2 ^ n
      only-lt = pow-lt (lowest-lt n choices (choices_lt h) z)

      pub fewer : size n rest < size n r
      fewer =
          size-lt n rest r chosen (rest_lt h) h (λ i p. (∖_out r (only chosen) i p).0) chosen_open
          (fails (has rest chosen) (λ p. clash (has (only chosen) chosen) (only_in chosen) (∖_out r (only chosen) chosen p).1))

    pub open_cases : (i : ℕ) → In r i → (i ≡ chosen) ⊎ In rest i
    open_cases i p = ⊎_elim (λ y. inl (only_out i chosen y)) (λ y. inr (∖_in r (only chosen) i p y)) (either (has (only chosen) i))

    -- T15: where a quorum lies outside c and none outside c and r, there is a node to split on
    pub some_choice : Monotone s → shut ≡ false → blocking_set n s c ≡ false → ¬ (choices ≡ nobody)
    unfolding blocking_set
    some_choice mono e k z =
        let g = greatest n s nobody (everyone n ∖ c) in
        let there : ¬ (g ≡ nobody) = holds-greatest n s nobody (everyone n ∖ c) (not_fails (holds_quorum n s nobody (everyone n ∖ c)) k) in
        let q = greatest-quorum n s mono nobody (everyone n ∖ c) there in
        let far : Sub g (everyone n ∖ (c ∪ r)) = λ i p.
        let w = ∖_out (everyone n) c i (greatest-sub n s nobody (everyone n ∖ c) i p) in
        ∖_in (everyone n) (c ∪ r) i w.0
        (fails (has (c ∪ r) i) (λ x. ⊎_elim (λ y. clash (has c i) y w.1) (λ y. none_in choices i z (∩_in r g i y p)) (∪_cases c r i x))) in
        let w = a_node n s g q.below there in
        clash shut
        (greatest-holds n s nobody (everyone n ∖ (c ∪ r)) (λ x.
        none_in (greatest n s nobody (everyone n ∖ (c ∪ r))) w.0 x (greatest-has n s nobody (everyone n ∖ (c ∪ r)) g q far w.0 w.1)))
        e

  abbrev tree : ℕ → ℕ → ℕ → Tree ℕ
  tree = blocking_from n s

  abbrev at_blocking : ℕ → Tree ℕ
  at_blocking c = found_if (minimal_blocking n s c) c

  module _ (most c r : ℕ) where
    pub tree_shut : shut c r ≡ true → tree (suc most) c r ≡ leaf
    unfolding blocking_from
    tree_shut e = rw (blocking_from, e)

    pub tree_blocks : shut c r ≡ false → blocking_set n s c ≡ true → tree (suc most) c r ≡ at_blocking c
    unfolding blocking_from
    tree_blocks e k = rw (blocking_from, e, k)

    pub tree_unsplit : shut c r ≡ false → blocking_set n s c ≡ false → choices c r ≡ nobody → tree (suc most) c r ≡ unsplit
    unfolding blocking_from
    tree_unsplit e k z = rw (blocking_from, e, k, eq-eqb (choices c r) 0 z)

    pub tree_fork : shut c r ≡ false → blocking_set n s c ≡ false → ¬ (choices c r ≡ nobody)
        → tree (suc most) c r ≡ fork (tree most c (rest c r)) (tree most (c ∪ only (chosen c r)) (rest c r))
    unfolding blocking_from
    tree_fork e k z = rw (blocking_from, e, k, ne_eqb (choices c r) 0 z)

  pub data Visit (c r : ℕ) : Type 0 where
    closed : shut c r ≡ true → Visit c r
    blocks : shut c r ≡ false → blocking_set n s c ≡ true → Visit c r
    lost : shut c r ≡ false → blocking_set n s c ≡ false → choices c r ≡ nobody → Visit c r
    parted : shut c r ≡ false → blocking_set n s c ≡ false → ¬ (choices c r ≡ nobody) → Visit c r

  pub visit : (c r : ℕ) → Visit c r
  visit c r =
      ⊎_elim closed
      (λ e. ⊎_elim (blocks e)
      (λ k. ⊎_elim (λ z. lost e k (eqb-true (choices c r) 0 z)) (λ z. parted e k (eqb-false (choices c r) 0 z)) (either (empty (choices c r))))
      (either (blocking_set n s c)))
      (either (shut c r))

  -- a deeper bound than the open nodes changes nothing
  pub tree_suc : (f c r : ℕ) → r < 2 ^ n → size n r < f → tree (suc f) c r ≡ tree f c r
  tree_suc zero c r hr l = absurd (not-suc-le-zero l)
  tree_suc (suc f) c r hr l =
      go (visit c r) (λ c' z. tree_suc f c' (rest c r) (rest_lt c r hr) (let w = fewer c r hr z in omega arith))
    where
      go : Visit c r → ((c' : ℕ) → ¬ (choices c r ≡ nobody) → tree (suc f) c' (rest c r) ≡ tree f c' (rest c r)) → tree (suc (suc f)) c r ≡ tree (suc f) c r
      go (closed e) ih = tree_shut (suc f) c r e ∙ sym (tree_shut f c r e)
      go (blocks e k) ih = tree_blocks (suc f) c r e k ∙ sym (tree_blocks f c r e k)
      go (lost e k z) ih = tree_unsplit (suc f) c r e k z ∙ sym (tree_unsplit f c r e k z)
      go (parted e k z) ih = tree_fork (suc f) c r e k z ∙ ap₂ fork (ih c z) (ih (c ∪ only (chosen c r)) z) ∙ sym (tree_fork f c r e k z)

  pub tree_parts : (c r : ℕ) → r < 2 ^ n → shut c r ≡ false → blocking_set n s c ≡ false → ¬ (choices c r ≡ nobody)
      → tree (suc n) c r ≡ fork (tree (suc n) c (rest c r)) (tree (suc n) (c ∪ only (chosen c r)) (rest c r))
  tree_parts c r hr e k z =
      let l : size n (rest c r) < n = let w = fewer c r hr z in let m = size-le n r in omega arith in
      tree_fork n c r e k z
      ∙ ap₂ fork (sym (tree_suc n c (rest c r) (rest_lt c r hr) l)) (sym (tree_suc n (c ∪ only (chosen c r)) (rest c r) (rest_lt c r hr) l))

  pub tree_splits : Monotone s → (f c r : ℕ) → Splits (tree f c r)
  unfolding blocking_from
  tree_splits mono zero c r = tt
  tree_splits mono (suc f) c r = go (visit c r) (λ c'. tree_splits mono f c' (rest c r))
    where
      go : Visit c r → ((c' : ℕ) → Splits (tree f c' (rest c r))) → Splits (tree (suc f) c r)
      go (closed e) ih = subst Splits (sym (tree_shut f c r e)) tt
      go (blocks e k) ih = subst Splits (sym (tree_blocks f c r e k)) (maybe_splits (minimal_blocking n s c) c)
      go (lost e k z) ih = absurd (some_choice c r mono e k z)
      go (parted e k z) ih = subst Splits (sym (tree_fork f c r e k z)) (ih c, ih (c ∪ only (chosen c r)))

  pub tree_visits : (f c r : ℕ) → r < 2 ^ n → suc (visits (tree f c r)) ≤ 2 ^ suc (size n r)
  unfolding blocking_from visits
  tree_visits zero c r hr = few (size n r)
  tree_visits (suc f) c r hr = go (visit c r) (λ c'. tree_visits f c' (rest c r) (rest_lt c r hr))
    where
      leaf_few : (t : Tree ℕ) → visits t ≤ 1 → tree (suc f) c r ≡ t → suc (visits (tree (suc f) c r)) ≤ 2 ^ suc (size n r)
      leaf_few t l e = let w = few (size n r) in subst (λ (x : Tree ℕ). suc (visits x) ≤ 2 ^ suc (size n r)) (sym e) (omega arith)

      go : Visit c r → ((c' : ℕ) → suc (visits (tree f c' (rest c r))) ≤ 2 ^ suc (size n (rest c r))) → suc (visits (tree (suc f) c r)) ≤ 2 ^ suc (size n r)
      go (closed e) ih = leaf_few leaf (le_refl 1) (tree_shut f c r e)
      go (blocks e k) ih = leaf_few (at_blocking c) (maybe_visits (minimal_blocking n s c) c) (tree_blocks f c r e k)
      go (lost e k z) ih = leaf_few unsplit (le_refl 1) (tree_unsplit f c r e k z)
      go (parted e k z) ih =
          let l : suc (size n (rest c r)) ≤ size n r = fewer c r hr z in
          let m : 2 ^ suc (size n (rest c r)) ≤ 2 ^ size n r = pow_mono l in
          let a = ih c in
          let b = ih (c ∪ only (chosen c r)) in
          let w : 2 ^ suc (size n r) ≡ 2 ^ size n r * 2 = pow-suc 2 (size n r) in
          subst (λ (x : Tree ℕ). suc (visits x) ≤ 2 ^ suc (size n r)) (sym (tree_fork f c r e k z)) (omega arith)

  -- ---- what is listed below (c, r) is a minimal blocking set that holds c and lies within c and r
  pub record Between (c r b : ℕ) : Type 0 where
    pub minimal : MinimalBlocking b
    pub holds : Sub c b
    pub within_both : Sub b (c ∪ r)

  pub finds_between : (f c r b : ℕ) → c < 2 ^ n → r < 2 ^ n → Among b (finds (tree f c r)) → Between c r b
  unfolding blocking_from finds
  finds_between zero c r b hc hr m = absurd m
  finds_between (suc f) c r b hc hr m = go (visit c r) (λ c' hc'. finds_between f c' (rest c r) b hc' (rest_lt c r hr))
    where
      cast : (t : Tree ℕ) → tree (suc f) c r ≡ t → Among b (finds t)
      cast t e = subst (λ (y : Tree ℕ). Among b (finds y)) e m

      rest_in : Sub (rest c r) r
      rest_in i x = (∖_out r (only (chosen c r)) i x).0

      go : Visit c r → ((c' : ℕ) → c' < 2 ^ n → Among b (finds (tree f c' (rest c r))) → Between c' (rest c r) b) → Between c r b
      go (closed e) ih = absurd (cast leaf (tree_shut f c r e))
      go (blocks e k) ih =
          let p = found_maybe (minimal_blocking n s c) c b (cast (at_blocking c) (tree_blocks f c r e k)) in
          record {
            minimal = subst MinimalBlocking (sym p.1) (minimal_is c hc p.0);
            holds = λ i x. subst (λ (y : ℕ). In y i) (sym p.1) x;
            within_both = λ i x. ∪-left c r i (subst (λ (y : ℕ). In y i) p.1 x);
          }
      go (lost e k z) ih = absurd (cast unsplit (tree_unsplit f c r e k z))
      go (parted e k z) ih =
          let v = chosen c r in
          ⊎_elim
          (λ x. let p = ih c hc x in
          record {
            minimal = p.minimal;
            holds = p.holds;
            within_both = λ i y. ⊎_elim (λ a. ∪-left c r i a) (λ a. ∪_right c r i (rest_in i a)) (∪_cases c (rest c r) i (p.within_both i y));
          })
          (λ x. let p = ih (c ∪ only v) (∪-lt n c (only v) hc (only-lt c r hr z)) x in
          record {
            minimal = p.minimal;
            holds = λ i y. p.holds i (∪-left c (only v) i y);
            within_both = λ i y. ⊎_elim
                (λ a. ⊎_elim (λ w. ∪-left c r i w) (λ w. ∪_right c r i (subst (In r) (sym (only_out i v w)) (chosen_open c r hr z))) (∪_cases c (only v) i a))
                (λ a. ∪_right c r i (rest_in i a))
                (∪_cases (c ∪ only v) (rest c r) i (p.within_both i y));
          })
          (among_cases b (finds (tree f c (rest c r))) (finds (tree f (c ∪ only v) (rest c r)))
          (cast (fork (tree f c (rest c r)) (tree f (c ∪ only v) (rest c r))) (tree_fork f c r e k z)))

  -- ---- and each of them is
  pub between_finds : Monotone s → (f c r b : ℕ) → c < 2 ^ n → r < 2 ^ n → size n r < f → Between c r b → Among b (finds (tree f c r))
  unfolding finds
  between_finds mono zero c r b hc hr l w = absurd (not-suc-le-zero l)
  between_finds mono (suc f) c r b hc hr l m =
      go (visit c r) (λ c' hc' z. between_finds mono f c' (rest c r) b hc' (rest_lt c r hr) (let w = fewer c r hr z in omega arith))
    where
      v : ℕ
      v = chosen c r

      cast : (t : Tree ℕ) → tree (suc f) c r ≡ t → Among b (finds t) → Among b (finds (tree (suc f) c r))
      cast t e x = subst (λ (y : Tree ℕ). Among b (finds y)) (sym e) x

      go : Visit c r → ((c' : ℕ) → c' < 2 ^ n → ¬ (choices c r ≡ nobody) → Between c' (rest c r) b → Among b (finds (tree f c' (rest c r))))
          → Among b (finds (tree (suc f) c r))
      go (closed e) ih =
          let w = a_quorum (everyone n ∖ (c ∪ r)) e in
          absurd (m.minimal.is w.0 w.1
          (λ i p. fails (has b i) (λ x. clash (has (c ∪ r) i) (m.within_both i x) (∖_out (everyone n) (c ∪ r) i (w.2 i p)).1)))
      go (blocks e k) ih =
          let same : c ≡ b = m.minimal.least c hc (blocking_is c k) m.holds in
          cast (at_blocking c) (tree_blocks f c r e k)
          (subst (λ (y : ℕ). Among y (finds (at_blocking c))) same
          (maybe_found (minimal_blocking n s c) c (is_minimal_lem c (subst MinimalBlocking (sym same) m.minimal))))
      go (lost e k z) ih = absurd (some_choice c r mono e k z)
      go (parted e k z) ih =
          cast (fork (tree f c (rest c r)) (tree f (c ∪ only v) (rest c r))) (tree_fork f c r e k z)
          (⊎_elim
          (λ x. among_right b (finds (tree f c (rest c r))) (finds (tree f (c ∪ only v) (rest c r)))
          (ih (c ∪ only v) (∪-lt n c (only v) hc (only-lt c r hr z)) z
          (record {
            minimal = m.minimal;
            holds = λ i y. ⊎_elim (m.holds i) (λ a. subst (In b) (sym (only_out i v a)) x) (∪_cases c (only v) i y);
            within_both = λ i y. ⊎_elim
                (λ a. ∪-left (c ∪ only v) (rest c r) i (∪-left c (only v) i a))
                (λ a. ⊎_elim (λ w. ∪-left (c ∪ only v) (rest c r) i (∪_right c (only v) i (subst (In (only v)) (sym w) (only_in v)))) (λ w. ∪_right (c ∪ only v) (rest c r) i w) (open_cases c r i a))
                (∪_cases c r i (m.within_both i y));
          })))
          (λ x. among_left b (finds (tree f c (rest c r))) (finds (tree f (c ∪ only v) (rest c r)))
          (ih c hc z
          (record {
            minimal = m.minimal;
            holds = m.holds;
            within_both = λ i y. ⊎_elim
                (λ a. ∪-left c (rest c r) i a)
                (λ a. ⊎_elim (λ w. clash (has b v) (subst (In b) w y) x) (λ w. ∪_right c (rest c r) i w) (open_cases c r i a))
                (∪_cases c r i (m.within_both i y));
          })))
          (either (has b v)))

  -- ---- in the listing order
  module _ (c r : ℕ) (hc : c < 2 ^ n) (hr : r < 2 ^ n) (z : ¬ (choices c r ≡ nobody)) where
    -- a node lower than the one chosen is in such a set exactly when it is in c
    low_in : (b i : ℕ) → i < chosen c r → MinimalBlocking b → Sub c b → Sub b (c ∪ r) → has b i ≡ has c i
    low_in b i l m f g =
        bool_ext (has b i) (has c i)
        (λ x. ⊎_elim (λ y. y)
        (λ y. clash (has (choices c r) i)
        (∩_in r (greatest n s nobody (everyone n ∖ c)) i
        (⊎_elim (λ w. clash (has c i) w y) (λ w. w) (∪_cases c r i (g i x)))
        (⊎_elim (λ w. clash (has c i) w y) (λ w. w) (∪_cases c (greatest n s nobody (everyone n ∖ c)) i (beside c b hc f m i x))))
        (lowest_first n (choices c r) i l))
        (either (has c i)))
        (f i)

    ahead : (a b : ℕ) → Between c (rest c r) a → Between (c ∪ only (chosen c r)) (rest c r) b → Ahead a b
    ahead a b x y =
        let v = chosen c r in
        let rest_in : Sub (rest c r) r = λ i p. (∖_out r (only v) i p).0 in
        record {
          where_at = v;
          lacks = fails (has a v) (λ p.
              ⊎_elim (λ w. clash (has c v) w (chosen_new c r hr z)) (λ w. clash (has (only v) v) (only_in v) (∖_out r (only v) v w).1) (∪_cases c (rest c r) v (x.within_both v p)));
          holds = y.holds v (∪_right c (only v) v (only_in v));
          alike = λ i l.
              low_in a i l x.minimal x.holds (λ j p. ⊎_elim (λ w. ∪-left c r j w) (λ w. ∪_right c r j (rest_in j w)) (∪_cases c (rest c r) j (x.within_both j p)))
              ∙ sym (low_in b i l y.minimal (λ j p. y.holds j (∪-left c (only v) j p))
              (λ j p. ⊎_elim
              (λ w. ⊎_elim (λ u. ∪-left c r j u) (λ u. ∪_right c r j (subst (In r) (sym (only_out j v u)) (chosen_open c r hr z))) (∪_cases c (only v) j w))
              (λ w. ∪_right c r j (rest_in j w))
              (∪_cases (c ∪ only v) (rest c r) j (y.within_both j p))));
        }

  pub finds_rise : (f c r : ℕ) → c < 2 ^ n → r < 2 ^ n → Rising (finds (tree f c r))
  unfolding blocking_from finds
  finds_rise zero c r hc hr = tt
  finds_rise (suc f) c r hc hr = go (visit c r) (λ c' hc'. finds_rise f c' (rest c r) hc' (rest_lt c r hr))
    where
      cast : (t : Tree ℕ) → tree (suc f) c r ≡ t → Rising (finds t) → Rising (finds (tree (suc f) c r))
      cast t e x = subst (λ (y : Tree ℕ). Rising (finds y)) (sym e) x

      go : Visit c r → ((c' : ℕ) → c' < 2 ^ n → Rising (finds (tree f c' (rest c r)))) → Rising (finds (tree (suc f) c r))
      go (closed e) ih = cast leaf (tree_shut f c r e) tt
      go (blocks e k) ih = cast (at_blocking c) (tree_blocks f c r e k) (one_rises (minimal_blocking n s c) c)
      go (lost e k z) ih = cast unsplit (tree_unsplit f c r e k z) tt
      go (parted e k z) ih =
          let c' = c ∪ only (chosen c r) in
          let hc' = ∪-lt n c (only (chosen c r)) hc (only-lt c r hr z) in
          cast (fork (tree f c (rest c r)) (tree f c' (rest c r))) (tree_fork f c r e k z)
          (rising_append (finds (tree f c (rest c r))) (finds (tree f c' (rest c r))) (ih c hc) (ih c' hc')
          (λ a b x y. ahead c r hc hr z a b (finds_between f c (rest c r) a hc (rest_lt c r hr) x) (finds_between f c' (rest c r) b hc' (rest_lt c r hr) y)))

  -- ---- the list
  module _ (mono : Monotone s) where
    pub blocking_finds : finds (blocking_tree n s) ≡ minimal_blocking_sets n s
    unfolding blocking_tree minimal_blocking_sets
    blocking_finds =
        rising_same (finds (tree (suc n) nobody (everyone n))) (sets_that n (minimal_blocking n s))
        (finds_rise (suc n) nobody (everyone n) (pow_pos n) (everyone-lt n)) (sets_that_rise n (minimal_blocking n s))
        (λ b m. let w = finds_between (suc n) nobody (everyone n) b (pow_pos n) (everyone-lt n) m in
        sets_that_in n (minimal_blocking n s) b w.minimal.bound (is_minimal_lem b w.minimal))
        (λ b m.
        let w = sets_that_out n (minimal_blocking n s) b m in
        between_finds mono (suc n) nobody (everyone n) b (pow_pos n) (everyone-lt n) (let l = size-le n (everyone n) in omega arith)
        (record { minimal = minimal_is b w.0 w.1; holds = λ i x. none_in nobody i refl x; within_both = λ i x. ∪_right nobody (everyone n) i (everyone-all n b w.0 i x) }))

    pub blocking_splits : Splits (blocking_tree n s)
    unfolding blocking_tree
    blocking_splits = tree_splits mono (suc n) nobody (everyone n)

    -- The tree lists exactly the minimal blocking sets, each once, in the listing order.
    pub blocking_listed : list (blocking_tree n s) ≡ listed (minimal_blocking_sets n s) (visits (blocking_tree n s))
    blocking_listed = list_all (blocking_tree n s) blocking_splits ∙ ap (λ l. listed l (visits (blocking_tree n s))) blocking_finds

  pub blocking_visits : suc (visits (blocking_tree n s)) ≤ 2 ^ suc (size n (everyone n))
  unfolding blocking_tree
  blocking_visits = tree_visits (suc n) nobody (everyone n) (everyone-lt n)
