-- The two visits below a split, and how their walks make up the whole.
use mathlib.Core.Path.{◌≡◌, refl, sym, ap, ap₂, ◌∙◌, subst}
use mathlib.Core.List.{List}
use Prim.Native.Nat.{ℕ, ◌+◌, ◌<◌}
use Rattle.std.specs.Prelude.{Result, Ok}
use Rattle.sets.specs.Sets.{nobody, only, ◌∪◌, ◌∖◌, size, lowest}
use Rattle.sets.proofs.Members.{In}
use Rattle.meanings.specs.Table.{nodes, satisfied}
use Rattle.meanings.specs.Trees.{Pair, Walk, walk, then_walk, stuck}
use Rattle.theory.proofs.QuorumTree.{choices, chosen_in}
use Rattle.quorum_visits.specs.declared.Visit.{Visit}
use Rattle.quorum_visits.specs.Visits.{Ready, Below}
use Rattle.quorum_visits.proofs.Laws.{reached}
use Rattle.answers.specs.declared.Refusal.{Refusal}
use Rattle.answers.specs.declared.Verdict.{Verdict}
use Rattle.answers.specs.declared.Verdict.TheVariants.{Yes, No}
use Rattle.verdict.specs.declared.Question.{Question}
use Rattle.verdict.specs.Search.{Visiting, Splitting, tree_of, within}
use Rattle.verdict.proofs.Looks as Looks
use Rattle.verdict.proofs.Allowance.{NotYes, first_ends, second_ends}

module _ {t : List ℕ} {q : Question} {a : Visit} {due on : ℕ} (V : Visiting t q a) (w : Splitting t q.d a due) (eo : on ≡ a.g ∖ a.c) where
  -- the walk from a visit on
  abbrev walk_at : Visit → Walk Pair
  walk_at b = walk (tree_of t q.d b.c b.r)

  on_is : on ≡ choices (nodes t) (satisfied t) q.d a.c a.r
  on_is = eo ∙ ap (λ (x : ℕ). x ∖ a.c) (reached t q.d a V.stands w.waiter.not-dry).1

  pub no_choice : on ≡ nobody → walk_at a ≡ stuck 1
  no_choice = Looks.no_choice t q.d a.c a.r w.few w.waiter.not-dry w.waiter.no-quorum on on_is

  module _ (z : ¬ (on ≡ nobody)) {v : ℕ} (ev : v ≡ lowest 64 on) where
    low : v ≡ lowest (nodes t) (choices (nodes t) (satisfied t) q.d a.c a.r)
    low = ev ∙ Looks.low t q.d a.c a.r w.few w.waiter.not-dry w.waiter.no-quorum on on_is z V.small

    pub ready : Ready t q.d a v due
    ready =
        record {
          waiter = w.waiter;
          one_in = subst (λ (x : ℕ). In x v) (sym on_is ∙ eo)
              (subst (In (choices (nodes t) (satisfied t) q.d a.c a.r)) (sym low) (chosen_in (nodes t) (satisfied t) q.d a.c a.r (λ e. z (on_is ∙ e))));
        }

    -- b is a visit below it, with the nodes c chosen
    module _ {c : ℕ} {b : Visit} (B : Below t q.d a v c b) where
      open_is : b.r ≡ on ∖ only v
      open_is = B.open_are ∙ ap (λ (x : ℕ). x ∖ only v) (sym eo)

      pub fewer : size 64 b.r < size 64 a.r
      fewer = Looks.rest_fewer t q.d a.c a.r w.few w.waiter.not-dry w.waiter.no-quorum on on_is z V.small V.stands.open_in v b.r ev open_is

      pub visiting : Visiting t q b
      visiting = record { stands = B.stands; small = V.small; ground_is = V.ground_is; half_is = V.half_is }

    module _ {left : Visit} (L : Below t q.d a v a.c left) where
      -- the walks below, the second still with the nodes that are chosen there
      parts : walk_at a ≡ then_walk (walk_at left) (walk (tree_of t q.d (a.c ∪ only v) left.r))
      parts =
          Looks.parts t q.d a.c a.r w.few w.waiter.not-dry w.waiter.no-quorum on on_is z V.small V.stands.waiting.below V.stands.open_in v left.r ev (open_is L)
          ∙ ap (λ (x : ℕ). then_walk (walk (tree_of t q.d x left.r)) (walk (tree_of t q.d (a.c ∪ only v) left.r))) (sym L.chosen_are)

      -- the first visit's answer is handed on, unless it is yes
      pub stops : (spent : ℕ) {o : Result Verdict Refusal} → o ≡ within q.allowance (spent + 1) (walk_at left) → NotYes o → o ≡ within q.allowance spent (walk_at a)
      stops spent {o} e y =
          first_ends q.allowance spent (walk_at left) (walk (tree_of t q.d (a.c ∪ only v) left.r)) o e y ∙ ap (within q.allowance spent) (sym parts)

      -- after a yes, the second visit's answer is the whole's
      pub goes_on : (spent : ℕ) {taken : Visit} {k : ℕ} → Below t q.d a v (a.c ∪ only v) taken → Ok (Yes k) ≡ within q.allowance (spent + 1) (walk_at left)
          → within q.allowance k (walk_at taken) ≡ within q.allowance spent (walk_at a)
      goes_on spent {taken} {k} T e =
          second_ends q.allowance spent (walk_at left) (walk_at taken) k e
          ∙ ap (λ (x : Walk Pair). within q.allowance spent (then_walk (walk_at left) x))
          (ap₂ (λ (x y : ℕ). walk (tree_of t q.d x y)) T.chosen_are (T.open_are ∙ sym L.open_are))
          ∙ ap (within q.allowance spent) (sym parts)

-- a verdict that is not the first case is no yes
pub not_yes : (v : Verdict) → ((k : ℕ) → v ≡ Yes k → ⊥) → NotYes (Ok v)
not_yes (Yes k) h = h k refl
not_yes (No a b k) h = tt
