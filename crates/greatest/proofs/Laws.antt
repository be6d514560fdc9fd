-- Striking unsatisfied nodes leaves the greatest quorum as it is, since satisfaction is monotone: no quorum has such a node. What is struck
-- makes only those nodes due that it touches. Where nobody is due, those present are a quorum, or nobody.
use mathlib.Core.Path.{◌≡◌, refl, sym, ap, ◌∙◌, subst}
use mathlib.Core.Bool.{Bool, true, false}
use mathlib.Core.List.{List}
use mathlib.Core.Logic.{◌⊎◌, inl, inr, ⊎_elim}
use Prim.Native.Nat.{ℕ, ◌+◌, ◌*◌, ◌^◌, ◌≤◌, ◌<◌}
use native.Mathlib.Omega.{arith}
use borrow.Author.Tests.{eqb-true, eqb-false, eq-eqb, ne_eqb}
use lib.Bits.{and_comm}
use lib.Pow.{pow_mono, pow_pos}
use Rattle.sets.specs.Sets.{has, nobody, only, ◌∪◌, ◌∩◌, ◌∖◌, empty, within, size, lowest, each}
use Rattle.sets.proofs.Bools.{either, clash, fails}
use Rattle.sets.proofs.Members.{In, Sub, has-nobody, has_below, ∪-left, ∪_right, ∪_cases, ∩_in, ∩_out, ∩-lt, ∖_in, ∖_out, ∖-lt, none_in, only_out, sub_antisym, sub_within, within-sub, within-lt, at_each, each_at}
use Rattle.sets.proofs.Size.{size-lt, size-le}
use Rattle.sets.proofs.Lowest.{lowest_in}
use Rattle.meanings.specs.Table.{nodes, satisfies, satisfied}
use Rattle.meanings.specs.Faults.{check, sound}
use Rattle.meanings.specs.Quorums.{greatest}
use Rattle.theory.proofs.Quorum.{Monotone, ∪_grows}
use Rattle.theory.proofs.Greatest.{greatest-lt, greatest-from, greatest-sub, greatest-has, greatest_grows, greatest_unique}
use Rattle.tables.proofs.Sound.{sound_table}
use Rattle.satisfaction.proofs.Monotone.{satisfied_monotone}
use Rattle.plans.specs.declared.Node.{Node}
use Rattle.plans.specs.Plans.{IsPlanOf}
use Rattle.greatest.specs.Greatest.{where_true, holding, Waiting, Due, Striking}

-- ---- striking, for any monotone satisfaction
module _ (n : ℕ) (s : ℕ → ℕ → Bool) (mono : Monotone s) (d : ℕ) where
  pub strike : (u x : ℕ) → ((i : ℕ) → In u i → In x i → s (u ∪ d) i ≡ false) → greatest n s d (u ∖ x) ≡ greatest n s d u
  strike u x f =
      sub_antisym n (greatest n s d (u ∖ x)) (greatest n s d u) (greatest-lt n s d (u ∖ x)) (greatest-lt n s d u)
      (greatest_grows n s d (u ∖ x) u (λ i p. (∖_out u x i p).0))
      (λ i p.
      let w = greatest-from n s d u i p in
      let q = w.0 in
      let stays : Sub q (u ∖ x) = λ j y. ∖_in u x j (w.2 j y)
      (fails (has x j) (λ z. clash (s (u ∪ d) j) (mono (q ∪ d) (u ∪ d) j (∪_grows q u d w.2) (w.1.met j y)) (f j (w.2 j y) z))) in
      greatest-has n s d (u ∖ x) q w.1 stays i w.3)

  pub settled : (u : ℕ) → u < 2 ^ n → ((i : ℕ) → In u i → has d i ≡ false) → ((i : ℕ) → In u i → s (u ∪ d) i ≡ true) → greatest n s d u ≡ u
  settled u h a m =
      sym (greatest_unique n s d u u h (λ q b f. f)
      (⊎_elim (λ e. inl (eqb-true u 0 e)) (λ e. inr (record { some_node = eqb-false u 0 e; below = h; apart = a; met = m }, λ i p. p)) (either (empty u))))

-- ---- the greatest quorum, where it has all that must stay
module _ (n must g : ℕ) (h : must < 2 ^ n) where
  pub holding-all : Sub must g → g ≡ holding must g
  holding-all f = sym (ap (λ (b : Bool). where_true b g) (sub_within n must g h f))

  pub holding-none : ¬ Sub must g → nobody ≡ holding must g
  holding-none f = sym (ap (λ (b : Bool). where_true b g) (fails (within must g) (λ e. f (within-sub must g e))))

pub holding-nobody : (g : ℕ) → g ≡ holding nobody g
holding-nobody g = holding-all 0 nobody g (pow_pos 0) (λ i p. none_in nobody i refl p)

-- ---- those who are still due
module _ {t : List ℕ} (sd : check t ≡ sound) {d c left : ℕ} (w : Waiting t d c left) where
  abbrev due_sub : Sub left c
  due_sub = within-sub left c w.due_in

  left_lt64 : left < 2 ^ 64
  left_lt64 =
      let m : 2 ^ nodes t ≤ 2 ^ 64 = pow_mono (sound_table t sd).nodes-le in
      let l = within-lt (nodes t) left c w.below w.due_in in
      omega arith

  -- nobody is due
  pub all_met : left ≡ nobody → empty nobody ≡ each (nodes t) c (λ v. satisfied t (c ∪ d) v)
  all_met z = sym (at_each (nodes t) c (λ v. satisfied t (c ∪ d) v) w.below (λ i p. w.met i p (ap (λ (x : ℕ). has x i) z ∙ has-nobody i)))

  pub first_in : (v : ℕ) → ¬ (left ≡ nobody) → v ≡ lowest 64 left → In left v
  first_in v z e = subst (In left) (sym e) (lowest_in 64 left left_lt64 z)

  module _ (v : ℕ) (v_in : In left v) where
    pub node_lt : v < nodes t
    node_lt = has_below (nodes t) c v w.below (due_sub v v_in)

    -- judging its record is judging all that are alike
    module _ {found : Node} (P : IsPlanOf t v found) where
      pub not_met : satisfies 3 t (c ∪ d) found.head ≡ false → empty left ≡ each (nodes t) c (λ v. satisfied t (c ∪ d) v)
      not_met f =
          ne_eqb left 0 (λ z. none_in left v z v_in)
          ∙ sym (fails (each (nodes t) c (λ v. satisfied t (c ∪ d) v)) (λ x. clash (satisfied t (c ∪ d) v) (each_at (nodes t) c (λ v. satisfied t (c ∪ d) v) x v (due_sub v v_in)) (P.judged v (c ∪ d) P.itself ∙ f)))

      pub fewer_due : satisfies 3 t (c ∪ d) found.head ≡ true → Waiting t d c (left ∖ found.like)
      fewer_due f =
          record {
            below = w.below;
            due_in = sub_within (nodes t) (left ∖ found.like) c (∖-lt (nodes t) left found.like (within-lt (nodes t) left c w.below w.due_in))
                (λ i p. due_sub i (∖_out left found.like i p).0);
            met = λ i p q. ⊎_elim
                (λ x. ⊎_elim (λ y. P.judged i (c ∪ d) y ∙ f) (λ y. clash (has (left ∖ found.like) i) (∖_in left found.like i x y) q) (either (has found.like i)))
                (w.met i p)
                (either (has left i));
          }

      pub due_less : size 64 (left ∖ found.like) < size 64 left
      due_less =
          size-lt 64 (left ∖ found.like) left v (∖-lt 64 left found.like left_lt64) left_lt64 (λ i p. (∖_out left found.like i p).0) v_in
          (fails (has (left ∖ found.like) v) (λ p. clash (has found.like v) P.itself (∖_out left found.like v p).1))

-- ---- the loop

-- those present, and those left to judge: the greatest quorum has not changed
pub record Lasts (t : List ℕ) (d u must present left : ℕ) : Type 0 where
  pub due : Due t d present left must
  pub same : greatest (nodes t) (satisfied t) d present ≡ greatest (nodes t) (satisfied t) d u

-- each turn strikes nodes, or leaves fewer to judge
pub measure : ℕ → ℕ → ℕ
measure present left = 65 * size 64 present + size 64 left

module _ {t : List ℕ} (sd : check t ≡ sound) {d u must present left : ℕ} (w : Lasts t d u must present left) where
  below64 : (x : ℕ) → x < 2 ^ nodes t → x < 2 ^ 64
  below64 x h = let m : 2 ^ nodes t ≤ 2 ^ 64 = pow_mono (sound_table t sd).nodes-le in omega arith

  present_lt : present < 2 ^ nodes t
  present_lt = w.due.waiting.below

  left_lt : left < 2 ^ nodes t
  left_lt = within-lt (nodes t) left present present_lt w.due.waiting.due_in

  left-sub : Sub left present
  left-sub = within-sub left present w.due.waiting.due_in

  must_lt : must < 2 ^ nodes t
  must_lt = within-lt (nodes t) must present present_lt w.due.must_in

  -- nobody is left to judge
  pub done : left ≡ nobody → present ≡ holding must (greatest (nodes t) (satisfied t) d u)
  done z =
      let e = settled (nodes t) (satisfied t) (satisfied_monotone t) d present present_lt w.due.apart
      (λ i p. w.due.waiting.met i p (ap (λ (x : ℕ). has x i) z ∙ has-nobody i)) in
      holding-all (nodes t) must present must_lt (within-sub must present w.due.must_in) ∙ ap (holding must) (sym e ∙ w.same)

  module _ (v : ℕ) (v_in : In left v) {found : Node} (P : IsPlanOf t v found) where
    abbrev like : ℕ
    like = found.like

    abbrev touched : ℕ
    touched = found.touched

    v_gone : (x : ℕ) → has (x ∖ like) v ≡ false
    v_gone x = fails (has (x ∖ like) v) (λ p. clash (has like v) P.itself (∖_out x like v p).1)

    abbrev rest : ℕ
    rest = present ∖ like

    rest_lt : rest < 2 ^ nodes t
    rest_lt = ∖-lt (nodes t) present like present_lt

    pub passed_less : measure present (left ∖ like) < measure present left
    unfolding measure
    passed_less =
        let l = size-lt 64 (left ∖ like) left v (below64 (left ∖ like) (∖-lt (nodes t) left like left_lt)) (below64 left left_lt) (λ i p. (∖_out left like i p).0) v_in (v_gone left) in
        omega arith

    pub struck_less : measure rest ((left ∪ touched) ∩ rest) < measure present left
    unfolding measure
    struck_less =
        let l = size-lt 64 rest present v (below64 rest rest_lt) (below64 present present_lt) (λ i p. (∖_out present like i p).0) (left-sub v v_in) (v_gone present) in
        let m = size-le 64 ((left ∪ touched) ∩ rest) in
        omega arith

    -- v and those alike are satisfied
    module _ (f : satisfies 3 t (present ∪ d) found.head ≡ true) where
      pub passed : Lasts t d u must present (left ∖ like)
      passed =
          record {
            due = record {
              waiting = fewer_due sd w.due.waiting v v_in P f;
              apart = w.due.apart;
              must_in = w.due.must_in;
            };
            same = w.same;
          }

    -- they are not
    module _ (f : satisfies 3 t (present ∪ d) found.head ≡ false) where
      struck_same : greatest (nodes t) (satisfied t) d rest ≡ greatest (nodes t) (satisfied t) d u
      struck_same = strike (nodes t) (satisfied t) (satisfied_monotone t) d present like (λ i p q. P.judged i (present ∪ d) q ∙ f) ∙ w.same

      -- one of them had to stay
      pub lost : ¬ (must ∩ rest ≡ must) → nobody ≡ holding must (greatest (nodes t) (satisfied t) d u)
      unfolding within
      lost z =
          holding-none (nodes t) must (greatest (nodes t) (satisfied t) d u) must_lt (λ g.
          z (eqb-true (must ∩ rest) must (sub_within (nodes t) must rest must_lt (λ i p. greatest-sub (nodes t) (satisfied t) d rest i (subst (λ (x : ℕ). In x i) (sym struck_same) (g i p))))))

      pub struck : must ∩ rest ≡ must → Lasts t d u must rest ((left ∪ touched) ∩ rest)
      unfolding within
      struck e =
          record {
            due = record {
              waiting = record {
                below = rest_lt;
                due_in = sub_within (nodes t) ((left ∪ touched) ∩ rest) rest (subst (λ (x : ℕ). x < 2 ^ nodes t) (and_comm rest (left ∪ touched)) (∩-lt (nodes t) rest (left ∪ touched) rest_lt)) (λ i p. (∩_out (left ∪ touched) rest i p).1);
                met = λ i p q.
                    let o = ∖_out present like i p in
                    let out : has (left ∪ touched) i ≡ false = fails (has (left ∪ touched) i) (λ x. clash (has ((left ∪ touched) ∩ rest) i) (∩_in (left ∪ touched) rest i x p) q) in
                    P.kept i (has_below (nodes t) present i present_lt o.0)
                    (fails (has touched i) (λ x. clash (has (left ∪ touched) i) (∪_right left touched i x) out))
                    (present ∪ d) (rest ∪ d) stays
                    (w.due.waiting.met i o.0 (fails (has left i) (λ x. clash (has (left ∪ touched) i) (∪-left left touched i x) out)));
              };
              apart = λ i p. w.due.apart i (∖_out present like i p).0;
              must_in = eq-eqb (must ∩ rest) must e;
            };
            same = struck_same;
          }
        where
          stays : (j : ℕ) → In (present ∪ d) j → In (rest ∪ d) j ⊎ In like j
          stays j p =
              ⊎_elim
              (λ x. ⊎_elim (λ y. inr y) (λ y. inl (∪-left rest d j (∖_in present like j x y))) (either (has like j)))
              (λ x. inl (∪_right rest d j x))
              (∪_cases present d j p)

-- ---- the greatest quorum of a quorum without one of its nodes
module _ {t : List ℕ} {d g v must : ℕ} (w : Striking t d g v must) where
  pub struck_lt : v < nodes t
  struck_lt = has_below (nodes t) g v w.closed.below w.one_in

  pub strikes : {found : Node} → IsPlanOf t v found → (u due : ℕ) → u ≡ g ∖ only v → due ≡ found.touched ∩ u → Due t d u due must
  strikes {found} P u due eu ed =
      subst (λ (x : ℕ). Due t d x due must) (sym eu) (subst (λ (x : ℕ). Due t d (g ∖ only v) x must) (sym (ed ∙ ap (λ (x : ℕ). found.touched ∩ x) eu))
      (record {
        waiting = record {
          below = rest_lt;
          due_in = sub_within (nodes t) (found.touched ∩ rest) rest
              (subst (λ (x : ℕ). x < 2 ^ nodes t) (and_comm rest found.touched) (∩-lt (nodes t) rest found.touched rest_lt)) (λ i p. (∩_out found.touched rest i p).1);
          met = λ i p q.
              let o = ∖_out g (only v) i p in
              P.kept i (has_below (nodes t) g i w.closed.below o.0)
              (fails (has found.touched i) (λ x. clash (has (found.touched ∩ rest) i) (∩_in found.touched rest i x p) q))
              (g ∪ d) (rest ∪ d) stays (w.closed.met i o.0);
        };
        apart = λ i p. w.closed.apart i (∖_out g (only v) i p).0;
        must_in = w.must_in;
      }))
    where
      rest : ℕ
      rest = g ∖ only v

      rest_lt : g ∖ only v < 2 ^ nodes t
      rest_lt = ∖-lt (nodes t) g (only v) w.closed.below

      stays : (j : ℕ) → In (g ∪ d) j → In (g ∖ only v ∪ d) j ⊎ In found.like j
      stays j p =
          ⊎_elim
          (λ x. ⊎_elim
          (λ y. inr (subst (In found.like) (sym (only_out j v y)) P.itself))
          (λ y. inl (∪-left (g ∖ only v) d j (∖_in g (only v) j x y)))
          (either (has (only v) j)))
          (λ x. inl (∪_right (g ∖ only v) d j x))
          (∪_cases g d j p)
