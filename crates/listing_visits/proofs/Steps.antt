-- What a visit comes to, step by step of the trees' definitions, and what the visits below a split know.
use mathlib.Core.Path.{◌≡◌, refl, sym, ap, ap₂, ◌∙◌, subst}
use mathlib.Core.Bool.{Bool, true, false, not, cond}
use mathlib.Core.List.{List}
use Prim.Native.Nat.{ℕ, ◌^◌, ◌≤◌, ◌<◌}
use native.Mathlib.Omega.{arith}
use borrow.Author.Tests.{eqb-true, eqb-false}
use Rattle.sets.specs.Sets.{nobody, everyone, only, ◌∪◌, ◌∩◌, ◌∖◌, empty, size, lowest}
use Rattle.sets.proofs.Bools.{fails}
use Rattle.sets.proofs.Members.{In, ∩-lt, ∖-lt}
use Rattle.sets.proofs.Size.{size_at}
use Rattle.sets.proofs.Lowest.{lowest_in, lowest_at}
use Rattle.meanings.specs.Table.{nodes, satisfied}
use Rattle.meanings.specs.Quorums.{quorum, holds_quorum, minimal_quorum, blocking_set, minimal_blocking}
use Rattle.meanings.specs.Trees.{Tree, leaf, found, unsplit, fork, found_if}
use Rattle.theory.proofs.Greatest.{greatest-holds, holds-greatest}
use Rattle.theory.proofs.QuorumTree as Q
use Rattle.theory.proofs.Blocking as B
use Rattle.quorum_visits.specs.declared.Visit.{Visit}
use Rattle.quorum_visits.specs.Visits as Branches
use Rattle.quorum_visits.proofs.Laws.{reached}
use Rattle.listing_visits.specs.declared.Sought.TheVariants.{Quorums, Blocking}
use Rattle.listing_visits.specs.declared.Step.{Step}
use Rattle.listing_visits.specs.declared.Step.TheVariants.{Stuck, Split}
use Rattle.listing_visits.specs.Visits.{tree_at, KnownBlocking, Splits, Comes, chosen}

-- a split on the lowest node, or none
chosen-comes : (C : Step → Type 0) (on due : ℕ) → (on ≡ nobody → C Stuck) → (¬ (on ≡ nobody) → C (Split (lowest 64 on) due)) → C (chosen on due)
chosen-comes C on due f g = go (empty on) refl
  where
    go : (b : Bool) → empty on ≡ b → C (cond b Stuck (Split (lowest 64 on) due))
    go true e = f (eqb-true on 0 e)
    go false e = g (eqb-false on 0 e)

-- a step is as good as what it is
pub came : {x y : Step} (C : Step → Type 0) → x ≡ y → C y → C x
came C e p = subst C (sym e) p

-- ---- minimal quorums
module _ (t : List ℕ) (a : Visit) (S : Branches.Stands t nobody a) where
  abbrev n : ℕ
  n = nodes t

  abbrev s : ℕ → ℕ → Bool
  s = satisfied t

  abbrev c : ℕ
  c = a.c

  abbrev r : ℕ
  r = a.r

  abbrev at_minimal : ℕ → Tree ℕ
  at_minimal u = found_if (minimal_quorum n s u) u

  pub dried : Branches.dry t nobody c r ≡ true → tree_at n s Quorums c r ≡ leaf
  dried e = Q.tree_dry n s nobody (λ u. false) at_minimal n c r refl e

  pub at_quorum : Branches.dry t nobody c r ≡ false → quorum n s nobody c ≡ true → tree_at n s Quorums c r ≡ found_if (minimal_quorum n s c) c
  at_quorum e q = Q.tree_quorum n s nobody (λ u. false) at_minimal n c r refl e q

  module _ (due : ℕ) (w : Branches.Waiter t nobody a due) (on : ℕ) (eo : on ≡ a.g ∖ c) where
    on_is : on ≡ Q.choices n s nobody c r
    on_is = eo ∙ ap (λ (x : ℕ). x ∖ c) (reached t nobody a S w.not-dry).1

    on_lt : on < 2 ^ n
    on_lt = subst (λ (x : ℕ). x < 2 ^ n) (sym on_is) (Q.choices_lt n s nobody c r)

    pub quorums_split : n ≤ 64 → Comes t Quorums a (chosen on due)
    quorums_split n64 = chosen-comes (Comes t Quorums a) on due none some
      where
        none : on ≡ nobody → tree_at n s Quorums c r ≡ unsplit
        none y = Q.tree_unsplit n s nobody (λ u. false) at_minimal n c r refl w.not-dry w.no-quorum (sym on_is ∙ y)

        some : ¬ (on ≡ nobody) → Splits t Quorums a (lowest 64 on) due
        some y =
            let m : ¬ (Q.choices n s nobody c r ≡ nobody) = λ x. y (on_is ∙ x) in
            let low : lowest 64 on ≡ lowest n on = lowest_at n on y on_lt 64 n64 in
            let v_is : lowest 64 on ≡ Q.chosen n s nobody c r = low ∙ ap (lowest n) on_is in
            let b_is : a.g ∖ c ∖ only (lowest 64 on) ≡ Q.below n s nobody c r = ap₂ (λ (x z : ℕ). x ∖ only z) (sym eo ∙ on_is) v_is in
            let f = subst (λ (x : ℕ). size n x < size n r) (sym b_is) (Q.fewer n s nobody c r m S.open_in) in
            let sb = size_at n (a.g ∖ c ∖ only (lowest 64 on)) (subst (λ (x : ℕ). x < 2 ^ n) (sym b_is) (Q.below_lt n s nobody c r)) 64 n64 in
            let sr = size_at n r S.open_in 64 n64 in
            record {
              ready = record { waiter = w; one_in = subst (λ (x : ℕ). In x (lowest 64 on)) eo (subst (In on) (sym low) (lowest_in n on on_lt y)) };
              parts = Q.tree_parts n s nobody (λ u. false) at_minimal c r w.waiting.below S.open_in refl w.not-dry w.no-quorum m
                  ∙ sym (ap₂ (λ (x z : ℕ). fork (tree_at n s Quorums c z) (tree_at n s Quorums (c ∪ only x) z)) v_is b_is);
              fewer = omega arith;
            }

-- ---- blocking sets
module _ (t : List ℕ) (a : Visit) (K : KnownBlocking t a) where
  abbrev m : ℕ
  m = nodes t

  abbrev σ : ℕ → ℕ → Bool
  σ = satisfied t

  pub quorum_outside : holds_quorum m σ nobody (everyone m ∖ (a.c ∪ a.r)) ≡ true → tree_at m σ Blocking a.c a.r ≡ leaf
  quorum_outside e = B.tree_shut m σ m a.c a.r e

  pub none-blocks : a.g ≡ nobody → blocking_set m σ a.c ≡ true
  unfolding blocking_set
  none-blocks z = ap not (fails (holds_quorum m σ nobody (everyone m ∖ a.c)) (λ x. holds-greatest m σ nobody (everyone m ∖ a.c) x (sym K.outside ∙ z)))

  some-blocks : ¬ (a.g ≡ nobody) → blocking_set m σ a.c ≡ false
  unfolding blocking_set
  some-blocks z = ap not (greatest-holds m σ nobody (everyone m ∖ a.c) (λ x. z (K.outside ∙ x)))

  module _ (e : holds_quorum m σ nobody (everyone m ∖ (a.c ∪ a.r)) ≡ false) where
    pub at_blocking_lem : a.g ≡ nobody → tree_at m σ Blocking a.c a.r ≡ found_if (minimal_blocking m σ a.c) a.c
    at_blocking_lem z = B.tree_blocks m σ m a.c a.r e (none-blocks z)

    pub blocking_split : a.r < 2 ^ m → m ≤ 64 → ¬ (a.g ≡ nobody) → (due : ℕ) → Comes t Blocking a (chosen (a.r ∩ a.g) due)
    blocking_split hr n64 z due = chosen-comes (Comes t Blocking a) (a.r ∩ a.g) due none some
      where
        on_is : a.r ∩ a.g ≡ B.choices m σ a.c a.r
        on_is = ap (λ (x : ℕ). a.r ∩ x) K.outside

        none : a.r ∩ a.g ≡ nobody → tree_at m σ Blocking a.c a.r ≡ unsplit
        none y = B.tree_unsplit m σ m a.c a.r e (some-blocks z) (sym on_is ∙ y)

        some : ¬ (a.r ∩ a.g ≡ nobody) → Splits t Blocking a (lowest 64 (a.r ∩ a.g)) due
        some y =
            let on = a.r ∩ a.g in
            let low : lowest 64 on ≡ lowest m on = lowest_at m on y (∩-lt m a.r a.g hr) 64 n64 in
            let v_is : lowest 64 on ≡ B.chosen m σ a.c a.r = low ∙ ap (lowest m) on_is in
            let p : ¬ (B.choices m σ a.c a.r ≡ nobody) = λ x. y (on_is ∙ x) in
            let f = subst (λ (x : ℕ). size m (a.r ∖ only x) < size m a.r) (sym v_is) (B.fewer m σ a.c a.r hr p) in
            let sb = size_at m (a.r ∖ only (lowest 64 on)) (∖-lt m a.r (only (lowest 64 on)) hr) 64 n64 in
            let sr = size_at m a.r hr 64 n64 in
            record {
              ready = record { none_outside = e; one_in = subst (In on) (sym low) (lowest_in m on (∩-lt m a.r a.g hr) y) };
              parts = B.tree_parts m σ a.c a.r hr e (some-blocks z) p
                  ∙ sym (ap (λ (x : ℕ). fork (tree_at m σ Blocking a.c (a.r ∖ only x)) (tree_at m σ Blocking (a.c ∪ only x) (a.r ∖ only x))) v_is);
              fewer = omega arith;
            }

-- a leaf that lists its set, or does not
pub lists : (t : Tree ℕ) (b : Bool) (c : ℕ) → t ≡ found_if b c → b ≡ true → t ≡ found c
lists t b c e k = e ∙ ap (λ (x : Bool). found_if x c) k

pub lists_not : (t : Tree ℕ) (b : Bool) (c : ℕ) → t ≡ found_if b c → b ≡ false → t ≡ leaf
lists_not t b c e k = e ∙ ap (λ (x : Bool). found_if x c) k
