-- What the searches hand from a visit to those below it: g is the greatest quorum in reach, with all chosen nodes c in it, and i one of its
-- other nodes. Without i, what is left of g is in reach; with it, g still is.
use mathlib.Core.Path.{◌≡◌, refl, sym, ap, ◌∙◌, subst}
use mathlib.Core.Bool.{Bool, true, false, not}
use mathlib.Core.List.{List}
use mathlib.Core.Logic.{◌⊎◌, inl, inr, ⊎_elim}
use Prim.Native.Nat.{ℕ, ◌^◌, ◌<◌}
use borrow.Author.Tests.{eqb-true, eqb-false, ne_eqb}
use lib.Pow.{pow_pos, pow-lt}
use Rattle.sets.specs.Sets.{has, nobody, only, ◌∪◌, ◌∩◌, ◌∖◌, empty, within}
use Rattle.sets.proofs.Bools.{either, clash, fails, not-holds, bool_ext}
use Rattle.sets.proofs.Members.{In, Sub, has_below, ∪-left, ∪_right, ∪_cases, ∪-lt, ∩_out, ∩-lt, ∖_in, ∖_out, ∖-lt, none_in, only_out, sub_antisym, sub_within, within-sub, within-lt}
use Rattle.meanings.specs.Table.{nodes, satisfied}
use Rattle.meanings.specs.Quorums.{quorum, greatest, holds_quorum}
use Rattle.theory.proofs.Quorum.{Monotone, ∪_grows, Quorum, quorum_is}
use Rattle.theory.proofs.Greatest.{greatest-lt, greatest-sub, greatest-apart, greatest-quorum, quorum-greatest, greatest-holds, holds-greatest}
use Rattle.satisfaction.proofs.Monotone.{satisfied_monotone}
use Rattle.greatest.specs.Greatest.{where_true, holding, Waiting, Apart, Due, Closed, Striking}

-- ---- whether all that must stay are in it
pub held : (must g x : ℕ) → x ≡ holding must g → ¬ (x ≡ nobody) → (within must g ≡ true) × (x ≡ g)
held must g x e z = go (within must g) refl e
  where
    go : (b : Bool) → within must g ≡ b → x ≡ where_true b g → (within must g ≡ true) × (x ≡ g)
    go true p q = (p, q)
    go false p q = absurd (z q)

pub not_held : (must g x : ℕ) → x ≡ holding must g → x ≡ nobody → (g ≡ nobody) ⊎ (within must g ≡ false)
not_held must g x e z = go (within must g) refl e
  where
    go : (b : Bool) → within must g ≡ b → x ≡ where_true b g → (g ≡ nobody) ⊎ (within must g ≡ false)
    go true p q = inl (sym q ∙ z)
    go false p q = inr p

pub held_is : (must g x : ℕ) → x ≡ holding must g → within must g ≡ true → x ≡ g
held_is must g x e p = e ∙ ap (λ (b : Bool). where_true b g) p

-- whether a quorum is there at all can be told where the greatest has all that must stay
pub holding-holds : (n : ℕ) (s : ℕ → ℕ → Bool) (d must u x : ℕ) → x ≡ holding must (greatest n s d u)
    → (¬ (greatest n s d u ≡ nobody) → within must (greatest n s d u) ≡ true) → not (empty x) ≡ holds_quorum n s d u
holding-holds n s d must u x e f =
    bool_ext (not (empty x)) (holds_quorum n s d u)
    (λ y. let z = eqb-false x 0 (not-holds (empty x) y) in greatest-holds n s d u (λ w. z ((held must (greatest n s d u) x e z).1 ∙ w)))
    (λ y. let z = holds-greatest n s d u y in ap not (ne_eqb x 0 (λ w. z (sym (held_is must (greatest n s d u) x e (f z)) ∙ w))))

-- nobody is in every set
pub none_within : (u : ℕ) → within nobody u ≡ true
none_within u = sub_within 0 nobody u (pow_pos 0) (λ i p. none_in nobody i refl p)

-- nobody is in both
pub apart_none : (n d u : ℕ) → u < 2 ^ n → Apart d u → u ∩ d ≡ nobody
apart_none n d u h a =
    sub_antisym n (u ∩ d) nobody (∩-lt n u d h) (pow_pos n) (λ i p. let q = ∩_out u d i p in clash (has d i) q.1 (a i q.0)) (λ i p. none_in nobody i refl p)

-- ---- the greatest quorum of a greatest quorum
pub greatest_again : (n : ℕ) (s : ℕ → ℕ → Bool) → Monotone s → (d u g : ℕ) → g ≡ greatest n s d u → greatest n s d g ≡ g
greatest_again n s mono d u g e =
    ⊎_elim
    (λ z. sub_antisym n (greatest n s d g) g (greatest-lt n s d g) g_lt (greatest-sub n s d g) (λ i p. none_in g i (eqb-true g 0 z) p))
    (λ z. quorum-greatest n s mono d g (subst (Quorum n s d) (sym e) (greatest-quorum n s mono d u (λ y. eqb-false g 0 z (e ∙ y)))))
    (either (empty g))
  where
    g_lt : g < 2 ^ n
    g_lt = subst (λ (x : ℕ). x < 2 ^ n) (sym e) (greatest-lt n s d u)

-- ---- quorums, and all nodes due
module _ (t : List ℕ) (d : ℕ) where
  pub closed_greatest : (u g : ℕ) → g ≡ greatest (nodes t) (satisfied t) d u → Closed t d g
  closed_greatest u g e =
      subst (Closed t d) (sym e)
      (record {
        below = greatest-lt (nodes t) (satisfied t) d u;
        apart = greatest-apart (nodes t) (satisfied t) d u;
        met = λ i p. (greatest-quorum (nodes t) (satisfied t) (satisfied_monotone t) d u (λ z. none_in (greatest (nodes t) (satisfied t) d u) i z p)).met i p;
      })

  pub closed_quorum : (c : ℕ) → quorum (nodes t) (satisfied t) d c ≡ true → Closed t d c
  closed_quorum c e = let q = quorum_is (nodes t) (satisfied t) d c e in record { below = q.below; apart = q.apart; met = q.met }

  pub all_due : (u must : ℕ) → u < 2 ^ nodes t → Apart d u → within must u ≡ true → Due t d u u must
  all_due u must h a m =
      record {
        waiting = record { below = h; due_in = sub_within (nodes t) u u h (λ i p. p); met = λ i p q. clash (has u i) p q };
        apart = a;
        must_in = m;
      }

  -- c grows by a node, which is due
  pub waiting_grows : (c due v : ℕ) → Waiting t d c due → v < 2 ^ nodes t → Waiting t d (c ∪ v) (due ∪ v)
  waiting_grows c due v w h =
      let in_c = within-sub due c w.due_in in
      record {
        below = ∪-lt (nodes t) c v w.below h;
        due_in = sub_within (nodes t) (due ∪ v) (c ∪ v) (∪-lt (nodes t) due v (within-lt (nodes t) due c w.below w.due_in) h)
            (λ i p. ⊎_elim (λ x. ∪-left c v i (in_c i x)) (λ x. ∪_right c v i x) (∪_cases due v i p));
        met = λ i p q. ⊎_elim
            (λ x. satisfied_monotone t (c ∪ d) (c ∪ v ∪ d) i (∪_grows c (c ∪ v) d (∪-left c v))
            (w.met i x (fails (has due i) (λ y. clash (has (due ∪ v) i) (∪-left due v i y) q))))
            (λ x. clash (has (due ∪ v) i) (∪_right due v i x) q)
            (∪_cases c v i p);
      }

  -- nobody chosen yet
  pub none-waiting : Waiting t d nobody nobody
  none-waiting =
      record {
        below = pow_pos (nodes t);
        due_in = sub_within (nodes t) nobody nobody (pow_pos (nodes t)) (λ i p. p);
        met = λ i p q. none_in nobody i refl p;
      }

-- ---- without the node, and with it
module _ (n g c i : ℕ) (hg : g < 2 ^ n) (c_in : Sub c g) (i_in : In (g ∖ c) i) where
  abbrev rest : ℕ
  rest = g ∖ c ∖ only i

  c_lt : c < 2 ^ n → c ∪ rest < 2 ^ n
  c_lt h = ∪-lt n c rest h (∖-lt n (g ∖ c) (only i) (∖-lt n g c hg))

  i_lt : only i < 2 ^ n
  i_lt = pow-lt (has_below n g i hg (∖_out g c i i_in).0)

  rest_in : (j : ℕ) → In rest j → In g j × (has (only i) j ≡ false)
  rest_in j p = let q = ∖_out (g ∖ c) (only i) j p in ((∖_out g c j q.0).0, q.1)

  in_rest : (j : ℕ) → In g j → has c j ≡ false → has (only i) j ≡ false → In rest j
  in_rest j p q r = ∖_in (g ∖ c) (only i) j (∖_in g c j p q) r

  not_chosen : (j : ℕ) → In c j → has (only i) j ≡ false
  not_chosen j p = fails (has (only i) j) (λ x. clash (has c i) (subst (In c) (only_out j i x) p) (∖_out g c i i_in).1)

  without_it : c < 2 ^ n → c ∪ rest ≡ g ∖ only i
  without_it h =
      sub_antisym n (c ∪ rest) (g ∖ only i) (c_lt h) (∖-lt n g (only i) hg)
      (λ j p. ⊎_elim (λ x. ∖_in g (only i) j (c_in j x) (not_chosen j x)) (λ x. let q = rest_in j x in ∖_in g (only i) j q.0 q.1) (∪_cases c rest j p))
      (λ j p. let q = ∖_out g (only i) j p in ⊎_elim (λ x. ∪-left c rest j x) (λ x. ∪_right c rest j (in_rest j q.0 x q.1)) (either (has c j)))

  with_it : c < 2 ^ n → c ∪ only i ∪ rest ≡ g
  with_it h =
      sub_antisym n (c ∪ only i ∪ rest) g (∪-lt n (c ∪ only i) rest (∪-lt n c (only i) h i_lt) (∖-lt n (g ∖ c) (only i) (∖-lt n g c hg))) hg
      (λ j p. ⊎_elim
      (λ x. ⊎_elim (c_in j) (λ y. subst (In g) (sym (only_out j i y)) (∖_out g c i i_in).0) (∪_cases c (only i) j x))
      (λ x. (rest_in j x).0)
      (∪_cases (c ∪ only i) rest j p))
      (λ j p. ⊎_elim
      (λ x. ∪-left (c ∪ only i) rest j (∪-left c (only i) j x))
      (λ x. ⊎_elim (λ y. ∪-left (c ∪ only i) rest j (∪_right c (only i) j y)) (λ y. ∪_right (c ∪ only i) rest j (in_rest j p x y)) (either (has (only i) j)))
      (either (has c j)))

  chosen_stay : c < 2 ^ n → within c (g ∖ only i) ≡ true
  chosen_stay h = sub_within n c (g ∖ only i) h (λ j p. ∖_in g (only i) j (c_in j p) (not_chosen j p))

  chosen_both : c < 2 ^ n → within (c ∪ only i) g ≡ true
  chosen_both h =
      sub_within n (c ∪ only i) g (∪-lt n c (only i) h i_lt)
      (λ j p. ⊎_elim (c_in j) (λ y. subst (In g) (sym (only_out j i y)) (∖_out g c i i_in).0) (∪_cases c (only i) j p))

module _ (t : List ℕ) (d c r g i : ℕ) (hc : c < 2 ^ nodes t) (eg : g ≡ greatest (nodes t) (satisfied t) d (c ∪ r))
    (all : within c (greatest (nodes t) (satisfied t) d (c ∪ r)) ≡ true) (i_in : In (g ∖ c) i) where
  abbrev closed : Closed t d g
  closed = closed_greatest t d (c ∪ r) g eg

  chosen_in : Sub c g
  chosen_in = subst (Sub c) (sym eg) (within-sub c (greatest (nodes t) (satisfied t) d (c ∪ r)) all)

  pub one_lt : only i < 2 ^ nodes t
  one_lt = i_lt (nodes t) g c i closed.below chosen_in i_in

  pub strikes_one : Striking t d g i c
  strikes_one = record { closed = closed; one_in = (∖_out g c i i_in).0; must_in = chosen_stay (nodes t) g c i closed.below chosen_in i_in hc }

  -- what is in reach below without the node
  pub left_out : (less : ℕ) → less ≡ holding c (greatest (nodes t) (satisfied t) d (g ∖ only i)) → less ≡ holding c (greatest (nodes t) (satisfied t) d (c ∪ (g ∖ c ∖ only i)))
  left_out less e = e ∙ ap (λ (x : ℕ). holding c (greatest (nodes t) (satisfied t) d x)) (sym (without_it (nodes t) g c i closed.below chosen_in i_in hc))

  -- and with it: g is still the greatest quorum in reach
  pub taken_in : g ≡ holding (c ∪ only i) (greatest (nodes t) (satisfied t) d (c ∪ only i ∪ (g ∖ c ∖ only i)))
  taken_in =
      sym (held_is (c ∪ only i) g (holding (c ∪ only i) g) refl (chosen_both (nodes t) g c i closed.below chosen_in i_in hc))
      ∙ ap (holding (c ∪ only i))
      (sym (greatest_again (nodes t) (satisfied t) (satisfied_monotone t) d (c ∪ r) g eg)
      ∙ ap (greatest (nodes t) (satisfied t) d) (sym (with_it (nodes t) g c i closed.below chosen_in i_in hc)))
