-- What a visit hands to the two below its split, and what the first visit of a search knows.
use mathlib.Core.Path.{◌≡◌, refl, sym, ap, ◌∙◌, subst}
use mathlib.Core.Bool.{Bool, true, false}
use mathlib.Core.List.{List}
use mathlib.Core.Logic.{⊎_elim}
use native.Mathlib.Omega.{arith}
use Prim.Native.Nat.{ℕ, ◌^◌, ◌<◌}
use lib.Pow.{pow_pos, pow-lt}
use Rattle.sets.specs.Sets.{has, nobody, everyone, only, ◌∪◌, ◌∖◌, within}
use Rattle.sets.proofs.Bools.{either, clash, fails}
use Rattle.sets.proofs.Members.{In, Sub, has-nobody, has_below, has-everyone, everyone-lt, ∪-left, ∪_right, ∪_cases, ∪-lt, ∩_out, ∖_in, ∖_out, ∖-lt, only_in, only_out, none_in, sub_antisym, sub_within, within-sub}
use Rattle.meanings.specs.Table.{nodes, satisfied}
use Rattle.meanings.specs.Faults.{check, sound}
use Rattle.meanings.specs.Quorums.{quorum, greatest, holds_quorum}
use Rattle.theory.proofs.Quorum.{quorum_is, is_quorum, a_node}
use Rattle.theory.proofs.Greatest.{greatest-lt, greatest-sub, greatest-from, greatest-has, greatest_grows, greatest-quorum, greatest-holds, holds-greatest}
use Rattle.tables.proofs.Sound.{sound_table}
use Rattle.satisfaction.proofs.Monotone.{satisfied_monotone}
use Rattle.greatest.specs.Greatest.{holding, Striking}
use Rattle.greatest.proofs.Laws.{holding-nobody}
use Rattle.greatest.proofs.Below.{none_within, closed_greatest}
use Rattle.quorum_visits.specs.declared.Visit.{Visit}
use Rattle.quorum_visits.specs.Visits as Branches
use Rattle.listing_visits.specs.declared.Sought.{Sought}
use Rattle.listing_visits.specs.declared.Sought.TheVariants.{Quorums, Blocking}
use Rattle.listing_visits.specs.Visits.{Stands, Known, KnownBlocking, ReadyBlocking, Below}

-- ---- blocking sets
module _ (t : List ℕ) (a : Visit) (S : Stands t Blocking a) (v : ℕ) (R : ReadyBlocking t a v) where
  abbrev m : ℕ
  m = nodes t

  abbrev σ : ℕ → ℕ → Bool
  σ = satisfied t

  v_open : In a.r v
  v_open = (∩_out a.r a.g v R.one_in).0

  v_in : In a.g v
  v_in = (∩_out a.r a.g v R.one_in).1

  open_lt : v < m
  open_lt = has_below m a.r v S.open_in v_open

  pub open_64 : v < 64
  open_64 =
      let small = S.small in
      let l = open_lt in
      omega arith

  not_chosen : has a.c v ≡ false
  not_chosen = (∖_out (everyone m) a.c v (greatest-sub m σ nobody (everyone m ∖ a.c) v (subst (λ (x : ℕ). In x v) S.known.outside v_in))).1

  -- with v left out, it is new among the nodes outside c and r
  new_in : In (everyone m ∖ (a.c ∪ (a.r ∖ only v))) v
  new_in =
      ∖_in (everyone m) (a.c ∪ (a.r ∖ only v)) v (has-everyone m v open_lt)
      (fails (has (a.c ∪ (a.r ∖ only v)) v) (λ x. ⊎_elim
      (λ y. clash (has a.c v) y not_chosen)
      (λ y. clash (has (only v) v) (only_in v) (∖_out a.r (only v) v y).1)
      (∪_cases a.c (a.r ∖ only v) v x)))

  -- and a quorum there that lacks it would have been there before
  old_quorum : (q : ℕ) → quorum m σ nobody q ≡ true → Sub q (everyone m ∖ (a.c ∪ (a.r ∖ only v))) → In q v
  old_quorum q e f =
      ⊎_elim (λ x. x)
      (λ x.
      let k = quorum_is m σ nobody q e in
      let w = a_node m σ q k.below k.some_node in
      let before : Sub q (everyone m ∖ (a.c ∪ a.r)) = λ i p.
      let o = ∖_out (everyone m) (a.c ∪ (a.r ∖ only v)) i (f i p) in
      ∖_in (everyone m) (a.c ∪ a.r) i o.0 (fails (has (a.c ∪ a.r) i) (λ y. clash (has (a.c ∪ (a.r ∖ only v)) i)
      (⊎_elim (λ z. ∪-left a.c (a.r ∖ only v) i z)
      (λ z. ∪_right a.c (a.r ∖ only v) i (∖_in a.r (only v) i z (fails (has (only v) i) (λ u. clash (has q v) (subst (In q) (only_out i v u) p) x))))
      (∪_cases a.c a.r i y)) o.1)) in
      clash (holds_quorum m σ nobody (everyone m ∖ (a.c ∪ a.r)))
      (greatest-holds m σ nobody (everyone m ∖ (a.c ∪ a.r)) (λ z. none_in (greatest m σ nobody (everyone m ∖ (a.c ∪ a.r))) w.0 z (greatest-has m σ nobody (everyone m ∖ (a.c ∪ a.r)) q k before w.0 w.1)))
      R.none_outside)
      (either (has q v))

  pub leave_blocking : (one r : ℕ) → one ≡ only v → r ≡ a.r ∖ only v
      → Below t Blocking a v a.c (record { c = a.c; r = r; g = a.g; due = one; grown = false })
  leave_blocking one r eo er =
      subst (λ (x : ℕ). Below t Blocking a v a.c (record { c = a.c; r = r; g = a.g; due = x; grown = false })) (sym eo)
      (subst (λ (x : ℕ). Below t Blocking a v a.c (record { c = a.c; r = x; g = a.g; due = only v; grown = false })) (sym er)
      (record {
        stands = record {
          small = S.small;
          chosen_in = S.chosen_in;
          open_in = ∖-lt m a.r (only v) S.open_in;
          known = record {
            outside = S.known.outside;
            has_grown = λ e. clash true refl (sym e);
            due_in = only-within (everyone m ∖ (a.c ∪ (a.r ∖ only v))) new_in;
            due_all = λ q e f. only-within q (old_quorum q e (within-sub q (everyone m ∖ (a.c ∪ (a.r ∖ only v))) f));
          };
        };
        chosen_are = refl;
        open_are = refl;
      }))
    where
      only-within : (u : ℕ) → In u v → within (only v) u ≡ true
      only-within u p = sub_within m (only v) u (pow-lt open_lt) (λ i q. subst (In u) (sym (only_out i v q)) p)

  pub strikes_outside : Striking t nobody a.g v nobody
  strikes_outside = record { closed = closed_greatest t nobody (everyone m ∖ a.c) a.g S.known.outside; one_in = v_in; must_in = none_within (a.g ∖ only v) }

  -- with v chosen, the greatest quorum outside c is what lasts without it
  outside_both : (g : ℕ) → g ≡ holding nobody (greatest m σ nobody (a.g ∖ only v)) → g ≡ greatest m σ nobody (everyone m ∖ (a.c ∪ only v))
  outside_both g e =
      e ∙ sym (holding-nobody (greatest m σ nobody (a.g ∖ only v)))
      ∙ sub_antisym m (greatest m σ nobody (a.g ∖ only v)) (greatest m σ nobody (everyone m ∖ (a.c ∪ only v))) (greatest-lt m σ nobody (a.g ∖ only v)) (greatest-lt m σ nobody (everyone m ∖ (a.c ∪ only v)))
      (greatest_grows m σ nobody (a.g ∖ only v) (everyone m ∖ (a.c ∪ only v)) (λ i p.
      let o = ∖_out a.g (only v) i p in
      let u = ∖_out (everyone m) a.c i (greatest-sub m σ nobody (everyone m ∖ a.c) i (subst (λ (x : ℕ). In x i) S.known.outside o.0)) in
      ∖_in (everyone m) (a.c ∪ only v) i u.0 (fails (has (a.c ∪ only v) i) (λ x. ⊎_elim (λ y. clash (has a.c i) y u.1) (λ y. clash (has (only v) i) y o.1) (∪_cases a.c (only v) i x)))))
      (λ i p.
      let w = greatest-from m σ nobody (everyone m ∖ (a.c ∪ only v)) i p in
      let q = w.0 in
      let out : (j : ℕ) → In q j → In (everyone m) j × (has (a.c ∪ only v) j ≡ false) = λ j x. ∖_out (everyone m) (a.c ∪ only v) j (w.2 j x) in
      let in_g : Sub q a.g = subst (Sub q) (sym S.known.outside)
      (greatest-has m σ nobody (everyone m ∖ a.c) q w.1 (λ j x. ∖_in (everyone m) a.c j (out j x).0 (fails (has a.c j) (λ y. clash (has (a.c ∪ only v) j) (∪-left a.c (only v) j y) (out j x).1)))) in
      greatest-has m σ nobody (a.g ∖ only v) q w.1
      (λ j x. ∖_in a.g (only v) j (in_g j x) (fails (has (only v) j) (λ y. clash (has (a.c ∪ only v) j) (∪_right a.c (only v) j y) (out j x).1))) i w.3)

  -- the nodes outside c and r stay the same
  same_outside : a.c ∪ only v ∪ (a.r ∖ only v) ≡ a.c ∪ a.r
  same_outside =
      sub_antisym m (a.c ∪ only v ∪ (a.r ∖ only v)) (a.c ∪ a.r)
      (∪-lt m (a.c ∪ only v) (a.r ∖ only v) (∪-lt m a.c (only v) S.chosen_in (pow-lt open_lt)) (∖-lt m a.r (only v) S.open_in)) (∪-lt m a.c a.r S.chosen_in S.open_in)
      (λ i p. ⊎_elim
      (λ x. ⊎_elim (∪-left a.c a.r i) (λ y. ∪_right a.c a.r i (subst (In a.r) (sym (only_out i v y)) v_open)) (∪_cases a.c (only v) i x))
      (λ x. ∪_right a.c a.r i (∖_out a.r (only v) i x).0)
      (∪_cases (a.c ∪ only v) (a.r ∖ only v) i p))
      (λ i p. ⊎_elim
      (λ x. ∪-left (a.c ∪ only v) (a.r ∖ only v) i (∪-left a.c (only v) i x))
      (λ x. ⊎_elim (λ y. ∪-left (a.c ∪ only v) (a.r ∖ only v) i (∪_right a.c (only v) i y)) (λ y. ∪_right (a.c ∪ only v) (a.r ∖ only v) i (∖_in a.r (only v) i x y)) (either (has (only v) i)))
      (∪_cases a.c a.r i p))

  pub take-blocking : (one r g : ℕ) → one ≡ only v → r ≡ a.r ∖ only v → g ≡ holding nobody (greatest m σ nobody (a.g ∖ only v))
      → Below t Blocking a v (a.c ∪ only v) (record { c = a.c ∪ one; r = r; g = g; due = nobody; grown = true })
  take-blocking one r g eo er eg =
      subst (λ (x : ℕ). Below t Blocking a v (a.c ∪ only v) (record { c = a.c ∪ x; r = r; g = g; due = nobody; grown = true })) (sym eo)
      (subst (λ (x : ℕ). Below t Blocking a v (a.c ∪ only v) (record { c = a.c ∪ only v; r = x; g = g; due = nobody; grown = true })) (sym er)
      (record {
        stands = record {
          small = S.small;
          chosen_in = ∪-lt m a.c (only v) S.chosen_in (pow-lt open_lt);
          open_in = ∖-lt m a.r (only v) S.open_in;
          known = record {
            outside = outside_both g eg;
            has_grown = λ e. ap (λ (x : ℕ). holds_quorum m σ nobody (everyone m ∖ x)) same_outside ∙ R.none_outside;
            due_in = none_within (everyone m ∖ (a.c ∪ only v ∪ (a.r ∖ only v)));
            due_all = λ q e f. none_within q;
          };
        };
        chosen_are = refl;
        open_are = refl;
      }))

-- ---- the first visit: no node chosen, all open
module _ (t : List ℕ) {all : ℕ} (G : all ≡ everyone (nodes t)) where
  abbrev k : ℕ
  k = nodes t

  abbrev τ : ℕ → ℕ → Bool
  τ = satisfied t

  pub all-lt : all < 2 ^ k
  all-lt = subst (λ (x : ℕ). x < 2 ^ k) (sym G) (everyone-lt k)

  module _ (B : Branches.Stands t nobody (Branches.root_is t nobody all)) where
    all_out : everyone k ∖ nobody ≡ all
    all_out =
        sub_antisym k (everyone k ∖ nobody) all (∖-lt k (everyone k) nobody (everyone-lt k)) all-lt
        (λ i p. subst (λ (x : ℕ). In x i) (sym G) (∖_out (everyone k) nobody i p).0)
        (λ i p. ∖_in (everyone k) nobody i (subst (λ (x : ℕ). In x i) G p) (has-nobody i))

    none_there : holds_quorum k τ nobody (everyone k ∖ (nobody ∪ all)) ≡ false
    none_there =
        fails (holds_quorum k τ nobody (everyone k ∖ (nobody ∪ all))) (λ e.
        let z = holds-greatest k τ nobody (everyone k ∖ (nobody ∪ all)) e in
        let w = a_node k τ (greatest k τ nobody (everyone k ∖ (nobody ∪ all))) (greatest-lt k τ nobody (everyone k ∖ (nobody ∪ all))) z in
        let o = ∖_out (everyone k) (nobody ∪ all) w.0 (greatest-sub k τ nobody (everyone k ∖ (nobody ∪ all)) w.0 w.1) in
        clash (has (nobody ∪ all) w.0) (∪_right nobody all w.0 (subst (λ (x : ℕ). In x w.0) (sym G) o.0)) o.1)

    known_first : (sought : Sought) → Known t sought (Branches.root_is t nobody all)
    known_first Quorums = B
    known_first Blocking =
        record {
          outside = ap (greatest k τ nobody) (sym all_out);
          has_grown = λ e. none_there;
          due_in = none_within (everyone k ∖ (nobody ∪ all));
          due_all = λ q e f. none_within q;
        }

    pub starts : check t ≡ sound → (sought : Sought) → Stands t sought (Branches.root_is t nobody all)
    starts checked sought = record { small = (sound_table t checked).nodes-le; chosen_in = pow_pos k; open_in = all-lt; known = known_first sought }

-- a quorum outside c and r has the nodes that are due
pub due_there : (t : List ℕ) (a : Visit) → KnownBlocking t a
    → let u = everyone (nodes t) ∖ (a.c ∪ a.r) in
    ¬ (greatest (nodes t) (satisfied t) nobody u ≡ nobody) → within a.due (greatest (nodes t) (satisfied t) nobody u) ≡ true
due_there t a K z =
    let u = everyone (nodes t) ∖ (a.c ∪ a.r) in
    let q = greatest-quorum (nodes t) (satisfied t) (satisfied_monotone t) nobody u z in
    K.due_all (greatest (nodes t) (satisfied t) nobody u) (is_quorum (nodes t) (satisfied t) nobody (greatest (nodes t) (satisfied t) nobody u) q)
    (sub_within (nodes t) (greatest (nodes t) (satisfied t) nobody u) u (greatest-lt (nodes t) (satisfied t) nobody u) (greatest-sub (nodes t) (satisfied t) nobody u))
