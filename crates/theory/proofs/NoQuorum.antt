-- Where no set is a quorum, and nodes that no set satisfies. An archive whose sheet is unknown is such a node.
--
-- Where there is no quorum all quorums intersect, none is minimal, and the empty set is the one minimal blocking set, for it leaves no quorum
-- outside. What a DSet leaves out is a plain quorum or nobody, so the one DSet is everyone, and nobody is intact.
--
-- A node that no set satisfies stands in no quorum, whoever is counted out, nor in a minimal blocking set. Every set blocks it, the empty one too, and it is never intact, since
-- an intact node stands in the plain quorum that some DSet leaves out. None of this needs that satisfaction is monotone.
use mathlib.Core.Path.{◌≡◌, refl, sym, ap, ◌∙◌, subst}
use mathlib.Core.Bool.{Bool, true, false, not, ◌&&◌, ◌||◌}
use mathlib.Core.List.{[], ◌∷◌}
use mathlib.Core.Logic.{inl, ⊎_elim}
use Prim.Native.Nat.{ℕ, ◌<◌}
use borrow.Author.Tests.{eqb-true}
use lib.Dec.{eqb}
use lib.Pow.{pow_pos}
use Rattle.sets.specs.Sets.{has, nobody, everyone, only, ◌∪◌, ◌∖◌, within, smaller}
use Rattle.sets.specs.Listing.{some_set}
use Rattle.sets.proofs.Bools.{either, clash, fails, and_parts, and_both, and_right_fails, or_right, not-holds}
use Rattle.sets.proofs.Members.{In, has-nobody, has_below, ∖_in, ∖_out, ∖-lt, none_in, only_in, only_out, everyone-all, sub_within, set_of-lt, set_of_out}
use Rattle.sets.proofs.Listing.{Among, some_set_at, at_some_set, sets_that_in, sets_that_out}
use Rattle.sets.proofs.Order.{rising_same, sets_that_rise}
use Rattle.meanings.specs.Quorums.{quorum, greatest, holds_quorum, intersecting, minimal_quorum, blocking_set, minimal_blocking, minimal_quorums, minimal_blocking_sets, dset, intact, intact_nodes, blocks}
use Rattle.theory.proofs.Quorum.{nobody_in, others, others_in, others_everyone, Quorum, quorum_is, is_quorum, is_intersecting}
use Rattle.theory.proofs.Greatest.{greatest-from}
use Rattle.theory.proofs.Minimal.{minimal_is as minimal_quorum_is}
use Rattle.theory.proofs.Blocking.{is_blocking, MinimalBlocking, minimal_is, is_minimal_lem}
use Rattle.theory.proofs.Intact.{dset_is}
use Rattle.theory.proofs.Blocks.{by_others}

-- no set satisfies node v
abbrev pub Never : (ℕ → ℕ → Bool) → ℕ → Type 0
Never s v = (u : ℕ) → s u v ≡ false

module _ (n : ℕ) (s : ℕ → ℕ → Bool) where
  -- ---- there is a quorum exactly where all nodes together hold one
  pub none-quorum : (d : ℕ) → holds_quorum n s d (everyone n) ≡ false → (q : ℕ) → Quorum n s d q → ⊥
  unfolding holds_quorum
  none-quorum d e q a =
      clash (holds_quorum n s d (everyone n))
      (at_some_set n (λ q. quorum n s d q && within q (everyone n)) q a.below
      (and_both (quorum n s d q) (within q (everyone n)) (is_quorum n s d q a) (sub_within n q (everyone n) a.below (everyone-all n q a.below))))
      e

  pub no-quorum-holds : (d u : ℕ) → ((q : ℕ) → Quorum n s d q → ⊥) → holds_quorum n s d u ≡ false
  unfolding holds_quorum
  no-quorum-holds d u f =
      fails (holds_quorum n s d u) (λ e.
      let w = some_set_at n (λ q. quorum n s d q && within q u) e in
      f w.0 (quorum_is n s d w.0 (and_parts (quorum n s d w.0) (within w.0 u) w.2).0))

  -- nobody is left to be a quorum where everyone is counted out
  everyone_out : (q : ℕ) → Quorum n s (everyone n) q → ⊥
  everyone_out q a =
      a.some_node (nobody_in n q a.below (λ i p. clash (has (everyone n) i) (everyone-all n q a.below i p) (a.apart i p)))

  pub no_quorum_intersects : (d : ℕ) → ((q : ℕ) → Quorum n s d q → ⊥) → intersecting n s d ≡ true
  no_quorum_intersects d f = is_intersecting n s d (λ p q a b. absurd (f p a))

  -- an intact node stands in a plain quorum
  pub intact_in_quorum : (b v : ℕ) → v < n → intact n s b v ≡ true → (q : ℕ) × Quorum n s nobody q × In q v
  unfolding intact
  intact_in_quorum b v l e =
      let w = some_set_at n (λ d. dset n s d && within b d && not (has d v)) e in
      let d = w.0 in
      let x = and_parts (dset n s d && within b d) (not (has d v)) w.2 in
      let in_rest : In (others n d) v = others_in n d v l (not-holds (has d v) x.1) in (
        others n d,
        ⊎_elim (λ q. q) (λ z. none_in (others n d) v z in_rest) (dset_is n s d w.1 (and_parts (dset n s d) (within b d) x.0).0).rest,
        in_rest,
      )

  -- ---- the empty set blocks exactly where there is no quorum
  pub nobody-blocks : blocking_set n s nobody ≡ not (holds_quorum n s nobody (everyone n))
  unfolding blocking_set
  nobody-blocks = ap (λ (u : ℕ). not (holds_quorum n s nobody u)) (others_everyone n nobody refl)

  -- and it blocks the nodes that everyone together does not satisfy
  pub nobody_blocks_node : (v : ℕ) → blocks n s nobody v ≡ not (s (everyone n) v)
  nobody_blocks_node v = by_others n s nobody v (has-nobody v) ∙ ap (λ (u : ℕ). not (s u v)) (others_everyone n nobody refl)

  pub nobody_alone_none : minimal_blocking_sets n s ≡ nobody ∷ [] → holds_quorum n s nobody (everyone n) ≡ false
  unfolding minimal_blocking_sets minimal_blocking
  nobody_alone_none e =
      let m = sets_that_out n (minimal_blocking n s) nobody (subst (Among nobody) (sym e) (inl refl)) in
      let b = (and_parts (blocking_set n s nobody) (not (some_set n (λ c. blocking_set n s c && smaller c nobody))) m.1).0 in
      not-holds (holds_quorum n s nobody (everyone n)) (sym nobody-blocks ∙ b)

  module _ (none : holds_quorum n s nobody (everyone n) ≡ false) where
    pub all_intersect : intersecting n s nobody ≡ true
    all_intersect = no_quorum_intersects nobody (none-quorum nobody none)

    pub no_minimal_quorums : minimal_quorums n s ≡ []
    unfolding minimal_quorums
    no_minimal_quorums =
        rising_same (minimal_quorums n s) [] (sets_that_rise n (minimal_quorum n s)) tt
        (λ q m. none-quorum nobody none q (minimal_quorum_is n s q (sets_that_out n (minimal_quorum n s) q m).1).is)
        (λ q m. absurd m)

    pub every_set_blocks : (b : ℕ) → blocking_set n s b ≡ true
    every_set_blocks b = is_blocking n s b (λ q a f. none-quorum nobody none q a)

    nobody-minimal : MinimalBlocking n s nobody
    nobody-minimal =
        record {
          bound = pow_pos n;
          is = λ q a f. none-quorum nobody none q a;
          least = λ c h x f. nobody_in n c h (λ i p. none_in nobody i refl (f i p));
        }

    pub nobody_blocks_alone : minimal_blocking_sets n s ≡ nobody ∷ []
    unfolding minimal_blocking_sets
    nobody_blocks_alone =
        rising_same (minimal_blocking_sets n s) (nobody ∷ []) (sets_that_rise n (minimal_blocking n s)) ((λ x m. absurd m), tt)
        (λ b m.
        let w = sets_that_out n (minimal_blocking n s) b m in
        inl (sym ((minimal_is n s b w.0 w.1).least nobody (pow_pos n) nobody-minimal.is (λ i p. none_in nobody i refl p))))
        (λ b m.
        ⊎_elim
        (λ (e : b ≡ nobody).
        subst (λ (x : ℕ). Among x (minimal_blocking_sets n s)) (sym e)
        (sets_that_in n (minimal_blocking n s) nobody (pow_pos n) (is_minimal_lem n s nobody nobody-minimal)))
        (λ z. absurd z)
        m)

    -- the one DSet is everyone
    pub everyone_alone_dset : (d : ℕ) → dset n s d ≡ eqb d (everyone n)
    unfolding dset
    everyone_alone_dset d =
        ap (λ (b : Bool). intersecting n s d && (b || eqb d (everyone n)))
        (fails (quorum n s nobody (others n d)) (λ e. none-quorum nobody none (others n d) (quorum_is n s nobody (others n d) e)))
        ∙ ⊎_elim
        (λ (p : eqb d (everyone n) ≡ true).
        ap (λ (b : Bool). b && eqb d (everyone n))
        (no_quorum_intersects d (λ q a. everyone_out q (subst (λ (x : ℕ). Quorum n s x q) (eqb-true d (everyone n) p) a))))
        (λ p. and_right_fails (intersecting n s d) (eqb d (everyone n)) p ∙ sym p)
        (either (eqb d (everyone n)))

    pub nobody-intact : (b : ℕ) → intact_nodes n s b ≡ nobody
    unfolding intact_nodes
    nobody-intact b =
        nobody_in n (intact_nodes n s b) (set_of-lt n (intact n s b)) (λ i p.
        let w = set_of_out n (intact n s b) i p in
        let q = intact_in_quorum b i w.0 w.1 in
        none-quorum nobody none q.0 q.1)

  -- ---- a node that no set satisfies
  module _ (v : ℕ) (never : Never s v) where
    pub never_in_quorum : (d q : ℕ) → Quorum n s d q → has q v ≡ false
    never_in_quorum d q a = fails (has q v) (λ p. clash (s (q ∪ d) v) (a.met v p) (never (q ∪ d)))

    pub never_in_greatest : (d u : ℕ) → has (greatest n s d u) v ≡ false
    never_in_greatest d u =
        fails (has (greatest n s d u) v) (λ p. let w = greatest-from n s d u v p in clash (has w.0 v) w.3 (never_in_quorum d w.0 w.1))

    pub never_in_minimal : (q : ℕ) → Among q (minimal_quorums n s) → has q v ≡ false
    unfolding minimal_quorums
    never_in_minimal q m = never_in_quorum nobody q (minimal_quorum_is n s q (sets_that_out n (minimal_quorum n s) q m).1).is

    -- nor does it help to block: without it a set meets the same quorums
    without_blocks : (b : ℕ) → MinimalBlocking n s b → (q : ℕ) → Quorum n s nobody q → ((i : ℕ) → In q i → has (b ∖ only v) i ≡ false) → ⊥
    without_blocks b m q a f =
        m.is q a (λ i p.
        fails (has b i) (λ x.
        clash (has (b ∖ only v) i)
        (∖_in b (only v) i x (fails (has (only v) i) (λ y. clash (has q v) (subst (In q) (only_out i v y) p) (never_in_quorum nobody q a))))
        (f i p)))

    pub never_in_blocking : (b : ℕ) → Among b (minimal_blocking_sets n s) → has b v ≡ false
    unfolding minimal_blocking_sets
    never_in_blocking b x =
        let w = sets_that_out n (minimal_blocking n s) b x in
        let m = minimal_is n s b w.0 w.1 in
        let same : b ∖ only v ≡ b = m.least (b ∖ only v) (∖-lt n b (only v) w.0) (without_blocks b m) (λ i p. (∖_out b (only v) i p).0) in
        fails (has b v) (λ p. clash (has (only v) v) (only_in v) (∖_out b (only v) v (subst (λ (y : ℕ). In y v) (sym same) p)).1)

    -- every set blocks it
    pub never_blocked : (b : ℕ) → blocks n s b v ≡ true
    unfolding blocks
    never_blocked b = or_right (has b v) (not (s (others n b) v)) (ap not (never (others n b)))

    pub never_intact : (b : ℕ) → has (intact_nodes n s b) v ≡ false
    unfolding intact_nodes
    never_intact b =
        fails (has (intact_nodes n s b) v) (λ p.
        let w = set_of_out n (intact n s b) v p in
        let q = intact_in_quorum b v w.0 w.1 in
        clash (has q.0 v) q.2 (never_in_quorum nobody q.0 q.1))

  -- where every node is such, there is no quorum
  pub all_never : ((v : ℕ) → v < n → Never s v) → (d u : ℕ) → holds_quorum n s d u ≡ false
  all_never f d u =
      no-quorum-holds d u (λ q a.
      a.some_node (nobody_in n q a.below (λ i p. clash (has q i) p (never_in_quorum i (f i (has_below n q i a.below p)) d q a))))
