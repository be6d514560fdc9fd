-- What comes before an answer: the faults of the table, then 8. Each is handed on unchanged whatever the answer would be; and where
-- none of them is met, the answer is what is given back.
use mathlib.Core.Path.{◌≡◌, refl, sym, ap, ap₂, ◌∙◌, subst}
use mathlib.Core.Bool.{Bool, true, false, ◌&&◌}
use mathlib.Core.Logic.{⊎_elim}
use mathlib.Core.List.{List, []}
use Prim.Native.Nat.{ℕ, ◌^◌, ◌<◌, ◌≤◌}
use Rattle.sets.specs.Sets.{within, everyone, ◌∪◌}
use Rattle.sets.proofs.Bools.{and_parts, and_both, bool_ext}
use Rattle.sets.proofs.Members.{∪-left, ∪_right, ∪_cases, ∪-lt, everyone-lt, within-sub, sub_within, within-lt}
use Rattle.meanings.specs.Table.{nodes}
use Rattle.meanings.specs.Faults.{Check, sound, check}
use Rattle.meanings.specs.Replies.{Reply, reply}
use Rattle.meanings.specs.Questions.{on_check, in_nodes}
use Rattle.tables.specs.Heads.{Reads}

pub inside_lt : (m n : ℕ) → within m (everyone n) ≡ true → m < 2 ^ n
inside_lt m n e = within-lt n m (everyone n) (everyone-lt n) e

-- ---- past the check: the words are sound, and n is how many nodes their table has
pub record Passed (t : List ℕ) (n : ℕ) : Type 0 where
  pub checked : check t ≡ sound
  pub nodes_are : n ≡ nodes t
  pub few : n ≤ 64

pub past_check : {w t : List ℕ} {n : ℕ} → (t ≡ w) × (check w ≡ sound) → Reads t ((n ≡ nodes t) × (n ≤ 64)) → Passed w n
past_check {n = n} opens told = record {
  checked = opens.1;
  nodes_are = subst (λ (k : List ℕ). n ≡ nodes k) opens.0 told.reads.0;
  few = told.reads.1;
}

-- ---- then a set of nodes, which lies within the n nodes or not
module _ {t : List ℕ} {n : ℕ} (p : Passed t n) (m : ℕ) where
  as_found : (r : Bool) → r ≡ within m (everyone n) → within m (everyone (nodes t)) ≡ r
  as_found r found = ap (λ (k : ℕ). within m (everyone k)) (sym p.nodes_are) ∙ sym found

  past : (r : Bool) → r ≡ within m (everyone n) → (x : Reply) → in_nodes r x ≡ on_check (check t) (in_nodes (within m (everyone (nodes t))) x)
  past r found x = sym (ap₂ (λ (c : Check) (d : Bool). on_check c (in_nodes d x)) p.checked (as_found r found))

  pub set_outside : false ≡ within m (everyone n) → (x : Reply) → reply 8 [] ≡ on_check (check t) (in_nodes (within m (everyone (nodes t))) x)
  set_outside = past false

  module _ (found : true ≡ within m (everyone n)) where
    pub set_inside : within m (everyone (nodes t)) ≡ true
    set_inside = as_found true found

    pub set_answered : (x : Reply) → x ≡ on_check (check t) (in_nodes (within m (everyone (nodes t))) x)
    set_answered = past true found

    -- and a further argument after it
    pub then_outside : (b : Bool) → b ≡ false → (x : Reply) → reply 8 [] ≡ on_check (check t) (in_nodes (within m (everyone (nodes t))) (in_nodes b x))
    then_outside b f x = ap (λ (d : Bool). in_nodes d x) (sym f) ∙ set_answered (in_nodes b x)

    pub then_answered : (b : Bool) → b ≡ true → (x : Reply) → x ≡ on_check (check t) (in_nodes (within m (everyone (nodes t))) (in_nodes b x))
    then_answered b f x = ap (λ (d : Bool). in_nodes d x) (sym f) ∙ set_answered (in_nodes b x)

-- ---- or two sets, tried at once: each lies within the nodes exactly when both together do
within_both : (a b e : ℕ) → a < 2 ^ 64 → b < 2 ^ 64 → within (a ∪ b) e ≡ (within a e && within b e)
within_both a b e h k = bool_ext (within (a ∪ b) e) (within a e && within b e) apart together
  where
    apart : within (a ∪ b) e ≡ true → (within a e && within b e) ≡ true
    apart w =
        let f = within-sub (a ∪ b) e w in
        and_both (within a e) (within b e) (sub_within 64 a e h (λ i q. f i (∪-left a b i q))) (sub_within 64 b e k (λ i q. f i (∪_right a b i q)))

    together : (within a e && within b e) ≡ true → within (a ∪ b) e ≡ true
    together w =
        let f = and_parts (within a e) (within b e) w in
        sub_within 64 (a ∪ b) e (∪-lt 64 a b h k) (λ i q. ⊎_elim (within-sub a e f.0 i) (within-sub b e f.1 i) (∪_cases a b i q))

in_turn_lem : (a b : Bool) (x : Reply) → in_nodes (a && b) x ≡ in_nodes a (in_nodes b x)
in_turn_lem true b x = refl
in_turn_lem false b x = refl

module _ {t : List ℕ} {n : ℕ} (p : Passed t n) (a b : ℕ) (h : a < 2 ^ 64) (k : b < 2 ^ 64) where
  abbrev in_turn : Reply → Reply
  in_turn x = on_check (check t) (in_nodes (within a (everyone (nodes t))) (in_nodes (within b (everyone (nodes t))) x))

  both_sets : (x : Reply) → on_check (check t) (in_nodes (within (a ∪ b) (everyone (nodes t))) x) ≡ in_turn x
  both_sets x =
      ap (on_check (check t))
      (ap (λ (d : Bool). in_nodes d x) (within_both a b (everyone (nodes t)) h k)
      ∙ in_turn_lem (within a (everyone (nodes t))) (within b (everyone (nodes t))) x)

  pub sets_outside : false ≡ within (a ∪ b) (everyone n) → (x : Reply) → reply 8 [] ≡ in_turn x
  sets_outside found x = set_outside p (a ∪ b) found x ∙ both_sets x

  module _ (found : true ≡ within (a ∪ b) (everyone n)) where
    pub sets-answered : (x : Reply) → x ≡ in_turn x
    sets-answered x = set_answered p (a ∪ b) found x ∙ both_sets x

    pub second_inside : within b (everyone (nodes t)) ≡ true
    second_inside =
        (and_parts (within a (everyone (nodes t))) (within b (everyone (nodes t))) (sym (within_both a b (everyone (nodes t)) h k) ∙ set_inside p (a ∪ b) found)).1
