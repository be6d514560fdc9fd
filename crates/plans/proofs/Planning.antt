-- A plan of the nodes so far takes in one more. Its record is judged for all that are alike; and a node that is not touched names none
-- of them in its quorum set, so that it loses nobody named when they are struck.
use mathlib.Core.Path.{◌≡◌, refl, sym, ap, ◌∙◌, subst}
use mathlib.Core.Logic.{⊎_elim}
use mathlib.Core.List.{List}
use Prim.Native.Nat.{ℕ, ◌+◌, ◌<◌, ◌≤◌}
use native.Mathlib.Omega.{arith}
use lib.ListN.{length, set}
use lib.Seq.{get_or-set_same, get_or-set_other}
use Rattle.sets.specs.Sets.{has, nobody, only, ◌∪◌, ◌∩◌}
use Rattle.sets.proofs.Bools.{clash, fails}
use Rattle.sets.proofs.Members.{In, ∪-left, ∪_right, ∪_cases, ∩_in, only_in, only_out, none_in}
use Rattle.sets.proofs.Size.{le-or-lt}
use Rattle.meanings.specs.Table.{records, nodes, head_of, satisfies, satisfied}
use Rattle.tables.proofs.Heads.{head_of-lt}
use Rattle.plans.specs.declared.Node.{Node}
use Rattle.plans.specs.Plans.{no_node, node_at, IsPlanOf, PlannedTo, Untouched}
use Rattle.plans.specs.Alike.{Alike, LikeNode}
use Rattle.plans.specs.Named.{Names, names_at, NamedTo, TouchedTo}

-- ---- one node more is looked at
module _ (names : List ℕ) (like m n : ℕ) (T : TouchedTo names like m n) where
  -- it names none of those struck
  pub touched_same : names_at names n ∩ like ≡ nobody → TouchedTo names like m (n + 1)
  touched_same e i l q =
      ⊎_elim
      (λ (h : n ≤ i). let d : i ≡ n = omega arith in ap (λ (k : ℕ). names_at names k ∩ like) d ∙ e)
      (λ h. T i h q)
      (le-or-lt n i)

  -- or it joins those touched
  pub touched_more : TouchedTo names like (m ∪ only n) (n + 1)
  touched_more i l q =
      ⊎_elim
      (λ (h : n ≤ i).
      let d : n ≡ i = omega arith in
      clash (has (m ∪ only n) i) (∪_right m (only n) i (subst (In (only n)) d (only_in n))) q)
      (λ h. T i h (fails (has m i) (λ w. clash (has (m ∪ only n) i) (∪-left m (only n) i w) q)))
      (le-or-lt n i)

-- ---- those alike

pub itself_alone : (t : List ℕ) (v : ℕ) → LikeNode t v (only v)
itself_alone t v =
    record { itself = only_in v; alike = λ i p w. ap (λ (k : ℕ). satisfies 3 t w (head_of t k)) (only_out i v p) }

pub one_alike : (t : List ℕ) (v m i : ℕ) → LikeNode t v m → Alike t (head_of t i) (head_of t v) → LikeNode t v (m ∪ only i)
one_alike t v m i L a =
    record {
      itself = ∪-left m (only i) v L.itself;
      alike = λ k p w.
          ⊎_elim (λ q. L.alike k q w) (λ q. ap (λ (j : ℕ). satisfies 3 t w (head_of t j)) (only_out k i q) ∙ a w) (∪_cases m (only i) k p);
    }

-- ---- the next node

-- a node that is not touched names none of those struck
untouched : (t names : List ℕ) (like m i : ℕ) → Names t (names_at names i) (head_of t i) → names_at names i ∩ like ≡ nobody → Untouched t like i
unfolding satisfied
untouched t names like m i N e u u' f =
    N u u' (λ j a b. ⊎_elim (λ x. x) (λ x. none_in (names_at names i ∩ like) j e (∩_in (names_at names i) like j b x)) (f j a))

pub is_plan : (t names : List ℕ) (v : ℕ) (found : Node) → v < nodes t → found.head ≡ head_of t v → LikeNode t v found.like
    → NamedTo t names (nodes t) → TouchedTo names found.like found.touched (nodes t) → IsPlanOf t v found
unfolding satisfied
is_plan t names v found l e L N T =
    record {
      inside = subst (λ (r : ℕ). r < records t) (sym e) (head_of-lt t v l);
      itself = L.itself;
      judged = λ i u p. L.alike i p u ∙ ap (satisfies 3 t u) (sym e);
      kept = λ i h q. untouched t names found.like found.touched i (N i h) (T i h q);
    }

-- the plan of a node is that of each node alike
abbrev pub Shared : List ℕ → Node → Type 0
Shared t found = (v : ℕ) → In found.like v → IsPlanOf t v found

pub shared : (t : List ℕ) (v : ℕ) (found : Node) → IsPlanOf t v found → Shared t found
shared t v found I i p = record { inside = I.inside; itself = p; judged = I.judged; kept = I.kept }

-- and where no node has been planned there is none
pub none_shared : (t : List ℕ) → Shared t no_node
none_shared t v p = absurd (none_in nobody v refl p)

-- it is written at its number
pub one_planned : (t : List ℕ) (plan : List Node) (n : ℕ) (found : Node) → n < length plan → PlannedTo t plan n → IsPlanOf t n found
    → PlannedTo t (set plan n found) (n + 1)
one_planned t plan n found l P I v h =
    ⊎_elim
    (λ (q : n ≤ v). let d : n ≡ v = omega arith in subst (λ (k : ℕ). IsPlanOf t k (node_at (set plan n found) k)) d (subst (IsPlanOf t n) (sym (get_or-set_same plan n found no_node l)) I))
    (λ (q : v < n). subst (IsPlanOf t v) (sym (get_or-set_other plan n v found no_node (λ e. omega arith))) (P v q))
    (le-or-lt n v)
