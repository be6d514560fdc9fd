-- What an answer of number 0 means. A table's satisfaction is monotone, so the union of all quorums in u is itself a quorum, or
-- empty: the largest quorum there. A round that is not the last drops a node and leaves one, so k nodes to start with take 1 to k.
use mathlib.Core.Path.{◌≡◌, refl, sym, ap, ◌∙◌, subst}
use mathlib.Core.Bool.{Bool, true, false, not, ◌||◌}
use mathlib.Core.Logic.{◌⊎◌, inl, inr, ⊎_elim}
use mathlib.Core.List.{List, [], ◌∷◌}
use Prim.Native.Nat.{ℕ, ◌^◌, ◌<◌, ◌≤◌}
use native.Mathlib.Omega.{arith}
use borrow.Author.Tests.{eqb-true, eqb-false, ltb-true}
use Rattle.std.specs.Prelude.{Result, Ok}
use lib.Dec.{eqb, ltb}
use lib.ListN.{length}
use lib.Pow.{pow_pos}
use Rattle.sets.specs.Sets.{has, nobody, everyone, ◌∖◌, within, size}
use Rattle.sets.proofs.Bools.{either}
use Rattle.sets.proofs.Members.{within-sub, sub_within}
use Rattle.meanings.specs.Table.{nodes, satisfied}
use Rattle.meanings.specs.Faults.{Check, sound, fault, check}
use Rattle.meanings.specs.Quorums.{quorum, greatest, blocks, overlaps_slices}
use Rattle.meanings.specs.Rounds.{rounds}
use Rattle.meanings.specs.Replies.{Reply, reply, ◌is◌, Answer, Set, Rounds, rank, value}
use Rattle.meanings.specs.Questions.{on_check, in_nodes, yes_or_no, quorum_reply, greatest_reply, blocks_reply}
use Rattle.answers.specs.declared.Refusal.{Refusal}
use Rattle.answers.specs.declared.Greatest.{Greatest}
use Rattle.answers.specs.Said.{yes_says, judged_says, greatest_says}
use Rattle.theory.proofs.Quorum.{quorum_is, is_quorum}
use Rattle.theory.proofs.Greatest.{greatest-lt, greatest-sub, greatest-has, greatest-quorum, greatest_unique}
use Rattle.theory.proofs.Rounds.{rounds-none, rounds-some}
use Rattle.theory.proofs.Blocks.{blocks_slices}
use Rattle.satisfaction.proofs.Monotone.{satisfied_monotone}
use Rattle.faults.proofs.Opening.{inside_lt}

-- g is the largest quorum in u with d counted out: it lies in u, every quorum in u lies in it, and it is a quorum or nobody
pub record Largest (t : List ℕ) (d u g : ℕ) : Type 0 where
  pub in_u : within g u ≡ true
  pub holds-all : (q : ℕ) → quorum (nodes t) (satisfied t) d q ≡ true → within q u ≡ true → within q g ≡ true
  pub quorum-or-nobody : (quorum (nodes t) (satisfied t) d g ≡ true) ⊎ (g ≡ nobody)

-- for the nodes of u that are not counted out: as many rounds as there are of them at most, and one at least; for none, none
pub record Counted (t : List ℕ) (d u k : ℕ) : Type 0 where
  pub some : ¬ (u ∖ d ≡ nobody) → (1 ≤ k) × (k ≤ size (nodes t) (u ∖ d))
  pub none : u ∖ d ≡ nobody → k ≡ 0

module _ (t : List ℕ) (d u : ℕ) where
  greatest-or-nobody : (quorum (nodes t) (satisfied t) d (greatest (nodes t) (satisfied t) d u) ≡ true) ⊎ (greatest (nodes t) (satisfied t) d u ≡ nobody)
  greatest-or-nobody =
      let g = greatest (nodes t) (satisfied t) d u in
      ⊎_elim (λ e. inr (eqb-true g 0 e))
      (λ e. inl (is_quorum (nodes t) (satisfied t) d g (greatest-quorum (nodes t) (satisfied t) (satisfied_monotone t) d u (eqb-false g 0 e))))
      (either (eqb g 0))

  pub greatest_largest : Largest t d u (greatest (nodes t) (satisfied t) d u)
  greatest_largest =
      let n = nodes t in
      let s = satisfied t in
      record {
        in_u = sub_within n (greatest n s d u) u (greatest-lt n s d u) (greatest-sub n s d u);
        holds-all = λ q e w.
            let a = quorum_is n s d q e in
            sub_within n q (greatest n s d u) a.below (greatest-has n s d u q a (within-sub q u w));
        quorum-or-nobody = greatest-or-nobody;
      }

  pub rounds-counted : within u (everyone (nodes t)) ≡ true → Counted t d u (rounds (nodes t) (satisfied t) d u)
  rounds-counted e =
      record {
        some = rounds-some (nodes t) (satisfied t) d u (inside_lt u (nodes t) e);
        none = rounds-none (nodes t) (satisfied t) d u;
      }

-- and nothing else is the largest
module _ (t : List ℕ) (d u g : ℕ) (l : Largest t d u g) where
  below : g < 2 ^ nodes t
  below =
      ⊎_elim (λ e. (quorum_is (nodes t) (satisfied t) d g e).below) (λ e. subst (λ (m : ℕ). m < 2 ^ nodes t) (sym e) (pow_pos (nodes t)))
      l.quorum-or-nobody

  pub largest_greatest : g ≡ greatest (nodes t) (satisfied t) d u
  largest_greatest =
      let n = nodes t in
      let s = satisfied t in
      greatest_unique n s d u g below
      (λ q a f. within-sub q g (l.holds-all q (is_quorum n s d q a) (sub_within n q u a.below f)))
      (⊎_elim (λ e. inr (quorum_is n s d g e, within-sub g u l.in_u)) (λ e. inl e) l.quorum-or-nobody)

-- ---- an answer is given only for a sound table and sets of its nodes, and it is the set and the rounds of the definition
answered_back : (c : Check) (a b : Bool) (g k m j : ℕ)
    → reply 0 (Set is g ∷ Rounds is k ∷ []) ≡ on_check c (in_nodes a (in_nodes b (reply 0 (Set is m ∷ Rounds is j ∷ []))))
    → (c ≡ sound) × (a ≡ true) × (b ≡ true) × (g ≡ m) × (k ≡ j)
answered_back sound true true g k m j e = (refl, refl, refl, ap (λ (x : Reply). value x Set) e, ap (λ (x : Reply). value x Rounds) e)
answered_back sound true false g k m j e = let z : ◌≡◌ {A = ℕ} 0 8 = ap (λ (x : Reply). x.number) e in absurd (omega arith)
answered_back sound false b g k m j e = let z : ◌≡◌ {A = ℕ} 0 8 = ap (λ (x : Reply). x.number) e in absurd (omega arith)
answered_back (fault x p) a b g k m j e = let z : ◌≡◌ {A = ℕ} 2 1 = ap (λ (y : Reply). length y.names) e in absurd (omega arith)

-- the greatest quorum as it is answered
pub record Answered (t : List ℕ) (d u g k : ℕ) : Type 0 where
  pub checked : check t ≡ sound
  pub union : g ≡ greatest (nodes t) (satisfied t) d u
  pub largest : Largest t d u g
  pub counted : Counted t d u k

pub greatest_means : (t : List ℕ) (d u : ℕ) (o : Result Greatest Refusal) → greatest_says o ≡ greatest_reply t d u → (g : Greatest) → o ≡ Ok g → Answered t d u g.set g.rounds
unfolding greatest_reply
greatest_means t d u o says g e =
    let n = nodes t in
    let s = satisfied t in
    let w = answered_back (check t) (within d (everyone n)) (within u (everyone n)) g.set g.rounds (greatest n s d u) (rounds n s d u) (sym (ap greatest_says e) ∙ says) in
    record {
      checked = w.0;
      union = w.3;
      largest = subst (Largest t d u) (sym w.3) (greatest_largest t d u);
      counted = subst (Counted t d u) (sym w.4) (rounds-counted t d u w.2);
    }

-- a yes and a no say what the definition says of them
pub says_yes : (yes : Bool) → yes_says yes ≡ yes_or_no yes
says_yes true = refl
says_yes false = refl

-- ---- a yes or a no is given only for a sound table and arguments among its nodes, and it is what the definition says
abbrev first_field : Reply → ℕ
first_field r = elim r.names [ [] ↦ 10 | x ∷ l ↦ rank x.field ]

judged_back : (c : Check) (a b yes x : Bool) → yes_or_no yes ≡ on_check c (in_nodes a (in_nodes b (yes_or_no x))) → (c ≡ sound) × (a ≡ true) × (b ≡ true) × (x ≡ yes)
judged_back sound true true true true e = (refl, refl, refl, refl)
judged_back sound true true false false e = (refl, refl, refl, refl)
judged_back sound true true true false e = let z : ◌≡◌ {A = ℕ} 1 0 = ap (λ (y : Reply). value y Answer) e in absurd (omega arith)
judged_back sound true true false true e = let z : ◌≡◌ {A = ℕ} 0 1 = ap (λ (y : Reply). value y Answer) e in absurd (omega arith)
judged_back sound true false true x e = let z : ◌≡◌ {A = ℕ} 0 8 = ap (λ (y : Reply). y.number) e in absurd (omega arith)
judged_back sound true false false x e = let z : ◌≡◌ {A = ℕ} 0 8 = ap (λ (y : Reply). y.number) e in absurd (omega arith)
judged_back sound false b true x e = let z : ◌≡◌ {A = ℕ} 0 8 = ap (λ (y : Reply). y.number) e in absurd (omega arith)
judged_back sound false b false x e = let z : ◌≡◌ {A = ℕ} 0 8 = ap (λ (y : Reply). y.number) e in absurd (omega arith)
judged_back (fault k p) a b true x e = let z : ◌≡◌ {A = ℕ} 3 0 = ap first_field e in absurd (omega arith)
judged_back (fault k p) a b false x e = let z : ◌≡◌ {A = ℕ} 3 0 = ap first_field e in absurd (omega arith)

-- whether b blocks node v, as it is answered: v is in b, or the nodes outside b do not satisfy v's set; b overlaps every slice of v
pub record BlocksNode (t : List ℕ) (b v : ℕ) (yes : Bool) : Type 0 where
  pub checked : check t ≡ sound
  pub set : within b (everyone (nodes t)) ≡ true
  pub node : v < nodes t
  pub by_others : (has b v || not (satisfied t (everyone (nodes t) ∖ b) v)) ≡ yes
  pub by_slices : overlaps_slices (nodes t) (satisfied t) b v ≡ yes

module _ (t : List ℕ) (o : Result Bool Refusal) (yes : Bool) (answer : judged_says o ≡ yes_or_no yes) where
  pub quorum_means : (d u : ℕ) → judged_says o ≡ quorum_reply t d u → (check t ≡ sound) × (quorum (nodes t) (satisfied t) d u ≡ yes)
  unfolding quorum_reply
  quorum_means d u says =
      let n = nodes t in
      let w = judged_back (check t) (within d (everyone n)) (within u (everyone n)) yes (quorum n (satisfied t) d u) (sym answer ∙ says) in
      (w.0, w.3)

  pub blocks_means : (b v : ℕ) → judged_says o ≡ blocks_reply t b v → BlocksNode t b v yes
  unfolding blocks_reply blocks
  blocks_means b v says =
      let n = nodes t in
      let s = satisfied t in
      let w = judged_back (check t) (within b (everyone n)) (ltb v n) yes (blocks n s b v) (sym answer ∙ says) in
      let l = ltb-true v n w.2 in
      record {
        checked = w.0;
        set = w.1;
        node = l;
        by_others = w.3;
        by_slices = sym (blocks_slices n s (satisfied_monotone t) b v l) ∙ w.3;
      }
