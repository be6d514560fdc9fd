-- What a visit knows settles steps (2) and (3), and the visits below a split know as much.
use mathlib.Core.Path.{◌≡◌, refl, sym, ap, ap₂, ◌∙◌, subst}
use mathlib.Core.Bool.{Bool, true, false, not}
use mathlib.Core.List.{List}
use mathlib.Core.Logic.{◌⊎◌, inl, inr, ⊎_elim}
use Prim.Native.Nat.{ℕ, ◌^◌, ◌<◌}
use borrow.Author.Tests.{eqb-true, eqb-false, eq-eqb, ne_eqb}
use lib.Bits.{or_comm, or_zero_r}
use Rattle.sets.specs.Sets.{nobody, only, ◌∪◌, ◌∖◌, empty, within, each}
use Rattle.sets.proofs.Bools.{either, clash, or_fails, or_neither, not_fails}
use Rattle.sets.proofs.Members.{∖-lt, within-sub}
use Rattle.meanings.specs.Table.{nodes, satisfied}
use Rattle.meanings.specs.Quorums.{quorum, greatest}
use Rattle.theory.proofs.Greatest.{greatest-lt, greatest-apart}
use Rattle.theory.proofs.Tests.{no-nodes, as_settled}
use Rattle.greatest.specs.Greatest.{holding, Waiting, Apart, Striking}
use Rattle.greatest.proofs.Below.{held, held_is, apart_none, none-waiting, waiting_grows, one_lt, strikes_one, left_out, taken_in}
use Rattle.quorum_visits.specs.declared.Visit.{Visit}
use Rattle.quorum_visits.specs.Visits.{reach, dry, Stands, Waiter, Ready, Below}

-- ---- steps (2) and (3)
module _ (t : List ℕ) (d : ℕ) (a : Visit) (S : Stands t d a) where
  abbrev n : ℕ
  n = nodes t

  abbrev s : ℕ → ℕ → Bool
  s = satisfied t

  abbrev whole : ℕ
  whole = reach t d a.c a.r

  module _ (z : ¬ (a.g ≡ nobody)) where
    g_held : (within a.c whole ≡ true) × (a.g ≡ whole)
    g_held = held a.c whole a.g S.in_reach z

    pub not-dry : dry t d a.c a.r ≡ false
    not-dry = or_neither (empty whole) (not (within a.c whole)) (ne_eqb whole 0 (λ x. z (g_held.1 ∙ x))) (ap not g_held.0)

    chosen-apart : Apart d a.c
    chosen-apart i p = greatest-apart n s d (a.c ∪ a.r) i (within-sub a.c whole g_held.0 i p)

    -- c is a quorum where it has nodes, and none of them is left unsatisfied
    module _ (left : ℕ) (w : Waiting t d a.c left) (e : empty left ≡ each n a.c (λ v. s (a.c ∪ d) v)) where
      pub is_quorum : ¬ (a.c ≡ nobody) → left ≡ nobody → quorum n s d a.c ≡ true
      is_quorum y x = sym (as_settled n s d a.c y (apart_none n d a.c w.below chosen-apart) w.below) ∙ sym e ∙ eq-eqb left 0 x

      no-quorum : (a.c ≡ nobody) ⊎ ¬ (left ≡ nobody) → quorum n s d a.c ≡ false
      no-quorum (inl y) = sym (no-nodes n s d a.c y)
      no-quorum (inr x) =
          ⊎_elim
          (λ y. sym (no-nodes n s d a.c (eqb-true a.c 0 y)))
          (λ y. sym (as_settled n s d a.c (eqb-false a.c 0 y) (apart_none n d a.c w.below chosen-apart) w.below) ∙ sym e ∙ ne_eqb left 0 x)
          (either (empty a.c))

      pub still_waits : (a.c ≡ nobody) ⊎ ¬ (left ≡ nobody) → Waiter t d a left
      still_waits x = record { not-dry = not-dry; no-quorum = no-quorum x; waiting = w }

  -- where it is not dry, g is the greatest quorum in reach, with all chosen nodes in it
  pub reached : dry t d a.c a.r ≡ false → (within a.c whole ≡ true) × (a.g ≡ whole)
  reached e =
      let w = not_fails (within a.c whole) (or_fails (empty whole) (not (within a.c whole)) e).1 in
      (w, held_is a.c whole a.g S.in_reach w)

  -- ---- the visits below a split
  module _ (v due : ℕ) (R : Ready t d a v due) where
    abbrev hold : (within a.c whole ≡ true) × (a.g ≡ whole)
    hold = reached R.waiter.not-dry

    abbrev hc : a.c < 2 ^ n
    hc = S.waiting.below

    choices_lt : a.g ∖ a.c < 2 ^ n
    choices_lt = ∖-lt n a.g a.c (subst (λ (x : ℕ). x < 2 ^ n) (sym hold.1) (greatest-lt n s d (a.c ∪ a.r)))

    pub strikes : Striking t d a.g v a.c
    strikes = strikes_one t d a.c a.r a.g v hc hold.1 hold.0 R.one_in

    open_lt : (r : ℕ) → r ≡ a.g ∖ a.c ∖ only v → r < 2 ^ n
    open_lt r e = subst (λ (x : ℕ). x < 2 ^ n) (sym e) (∖-lt n (a.g ∖ a.c) (only v) choices_lt)

    pub left_below : (r g : ℕ) → r ≡ a.g ∖ a.c ∖ only v → g ≡ holding a.c (greatest n s d (a.g ∖ only v))
        → Below t d a v a.c (record { c = a.c; r = r; g = g; due = due; grown = false })
    left_below r g er eg =
        record {
          stands = record {
            open_in = open_lt r er;
            in_reach = left_out t d a.c a.r a.g v hc hold.1 hold.0 R.one_in g eg ∙ ap (λ (x : ℕ). holding a.c (reach t d a.c x)) (sym er);
            waiting = R.waiter.waiting;
            not_grown = λ e. R.waiter.no-quorum;
          };
          chosen_are = refl;
          open_are = er;
        }

    pub taken_below : (one r : ℕ) → one ≡ only v → r ≡ a.g ∖ a.c ∖ only v
        → Below t d a v (a.c ∪ only v) (record { c = a.c ∪ one; r = r; g = a.g; due = due ∪ one; grown = true })
    taken_below one r eo er =
        record {
          stands = record {
            open_in = open_lt r er;
            in_reach = taken_in t d a.c a.r a.g v hc hold.1 hold.0 R.one_in ∙ ap₂ (λ (x y : ℕ). holding (a.c ∪ x) (reach t d (a.c ∪ x) y)) (sym eo) (sym er);
            waiting = waiting_grows t d a.c due one R.waiter.waiting (subst (λ (x : ℕ). x < 2 ^ n) (sym eo) (one_lt t d a.c a.r a.g v hc hold.1 hold.0 R.one_in));
            not_grown = λ e. clash true refl e;
          };
          chosen_are = ap (λ (x : ℕ). a.c ∪ x) eo;
          open_are = er;
        }

-- ---- the first visit
pub starts : (t : List ℕ) (d u g : ℕ) → u < 2 ^ nodes t → g ≡ holding nobody (greatest (nodes t) (satisfied t) d u)
    → Stands t d (record { c = nobody; r = u; g = g; due = nobody; grown = true })
starts t d u g h e =
    record {
      open_in = h;
      in_reach = e ∙ ap (λ (x : ℕ). holding nobody (greatest (nodes t) (satisfied t) d x)) (sym (or_comm nobody u ∙ or_zero_r u));
      waiting = none-waiting t d;
      not_grown = λ z. clash true refl z;
    }
