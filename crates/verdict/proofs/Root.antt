-- The ground, what a part of it asks for the greatest quorum in it, and the first visit.
use mathlib.Core.Path.{◌≡◌, sym, ap, ◌∙◌, subst}
use mathlib.Core.List.{List}
use Prim.Native.Nat.{ℕ, ◌/◌, ◌^◌, ◌≤◌, ◌<◌}
use Rattle.sets.specs.Sets.{nobody, everyone, ◌∖◌, size}
use Rattle.sets.proofs.Members.{In, Sub}
use Rattle.sets.proofs.Size.{size_at}
use Rattle.meanings.specs.Table.{nodes}
use Rattle.meanings.specs.Faults.{check, sound}
use Rattle.meanings.specs.Quorums.{whole_ground}
use Rattle.theory.proofs.Quorum.{ground_out, ground-lt}
use Rattle.tables.proofs.Sound.{sound_table}
use Rattle.greatest.specs.Greatest.{Due, Apart}
use Rattle.greatest.proofs.Below.{all_due, none_within}
use Rattle.quorum_visits.specs.declared.Visit.{Visit}
use Rattle.quorum_visits.specs.Visits.{Stands}
use Rattle.verdict.specs.Search.{Visiting}

-- nobody of the ground is counted out
pub ground-apart : (t : List ℕ) (d ground u : ℕ) → ground ≡ whole_ground (nodes t) d → Sub u ground → Apart d u
ground-apart t d ground u e f i p = (ground_out (nodes t) d i (subst (λ (x : ℕ). In x i) e (f i p))).1

-- a part of the ground, all of it due
pub ground_due : (t : List ℕ) (d ground u : ℕ) → ground ≡ whole_ground (nodes t) d → u < 2 ^ nodes t → Sub u ground → Due t d u u nobody
ground_due t d ground u e h f = all_due t d u nobody h (ground-apart t d ground u e f) (none_within u)

-- the first visit of a sound table: the ground is what all nodes leave of those counted out
module _ (t : List ℕ) (d : ℕ) {all ground : ℕ} (checked : check t ≡ sound) (all_are : all ≡ everyone (nodes t)) (left : ground ≡ all ∖ d) where
  small : nodes t ≤ 64
  small = (sound_table t checked).nodes-le

  pub ground_of : ground ≡ whole_ground (nodes t) d
  unfolding whole_ground
  ground_of = left ∙ ap (λ (x : ℕ). x ∖ d) all_are

  ground_below : ground < 2 ^ nodes t
  ground_below = subst (λ (x : ℕ). x < 2 ^ nodes t) (sym ground_of) (ground-lt (nodes t) d)

  pub root_asks : (ground < 2 ^ nodes t) × Apart d ground
  root_asks = (ground_below, ground-apart t d ground ground ground_of (λ i p. p))

  pub first_visit : {size_is allowance : ℕ} {a : Visit} → size_is ≡ size 64 ground → Stands t d a
      → Visiting t (record { d = d; ground = ground; half = size_is / 2; allowance = allowance }) a
  first_visit e s =
      record {
        stands = s;
        small = small;
        ground_is = ground_of;
        half_is = ap (λ (x : ℕ). x / 2) (e ∙ size_at (nodes t) ground ground_below 64 small);
      }
