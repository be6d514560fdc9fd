-- Blocking one node, in the words of the papers.
--
-- By slices (Florian and others, definition 3.3; Mazières, section 5.2): b blocks v exactly when it overlaps every slice of v. A slice that b
-- misses lies outside b, so all the nodes outside b satisfy v's set too, and v, which the slice holds, is not in b. If v is not in b
-- and the nodes outside b satisfy its set, they are a slice themselves, and b misses it.
--
-- By quorums (Mazières, theorem 7): the nodes outside b are a plain quorum, or b is everything, exactly when b blocks no node outside it.
-- A node outside b that b does not block is one that the nodes outside b satisfy. This needs no monotony.
use mathlib.Core.Path.{◌≡◌, sym, ap, ◌∙◌}
use mathlib.Core.Bool.{Bool, true, false, not, ◌&&◌, ◌||◌}
use mathlib.Core.Logic.{⊎_elim}
use Prim.Native.Nat.{ℕ, ◌^◌, ◌<◌}
use lib.Dec.{eqb}
use lib.Bits.{and_comm, or_zero_r}
use borrow.Author.Tests.{eqb-true, eqb-false, eq-eqb}
use Rattle.sets.specs.Sets.{has, nobody, everyone, ◌∪◌, ◌∩◌, meets, each}
use Rattle.sets.proofs.Bools.{either, clash, fails, holds, bool_ext, and_parts, and_both, or_cases, or_left, or_right, or_fails, not-holds, not_fails}
use Rattle.sets.proofs.Members.{In, Sub, has-nobody, has_below, ∩_in, none_in, each_at, at_each}
use Rattle.sets.proofs.Listing.{all_sets_at, at_all_sets}
use Rattle.meanings.specs.Quorums.{quorum, intersecting, dset, blocks, slice, overlaps_slices}
use Rattle.theory.proofs.Quorum.{others, others_lt, others_in, others_out, others_nobody, nobody_others, Monotone, Quorum, quorum_is, is_quorum}
use Rattle.theory.proofs.Verdict.{apart_none, meets-not, not-meets}

module _ (n : ℕ) (s : ℕ → ℕ → Bool) where
  -- ---- a set blocks its own nodes; another node is judged on the nodes outside
  pub itself : (b v : ℕ) → In b v → blocks n s b v ≡ true
  unfolding blocks
  itself b v p = or_left (has b v) (not (s (others n b) v)) p

  pub by_others : (b v : ℕ) → has b v ≡ false → blocks n s b v ≡ not (s (others n b) v)
  unfolding blocks
  by_others b v p = ap (λ (x : Bool). x || not (s (others n b) v)) p

  unblocked : (b v : ℕ) → blocks n s b v ≡ false → (has b v ≡ false) × (s (others n b) v ≡ true)
  unfolding blocks
  unblocked b v e = let w = or_fails (has b v) (not (s (others n b) v)) e in (w.0, not_fails (s (others n b) v) w.1)

  not_blocked : (b v : ℕ) → has b v ≡ false → s (others n b) v ≡ true → blocks n s b v ≡ false
  not_blocked b v p q = by_others b v p ∙ ap not q

  -- ---- slices
  slice_met : (b v q : ℕ) → overlaps_slices n s b v ≡ true → q < 2 ^ n → In q v → s q v ≡ true → meets b q ≡ true
  unfolding overlaps_slices slice
  slice_met b v q e h p m =
      ⊎_elim (λ x. clash (slice n s q v) (and_both (has q v) (s q v) p m) (not-holds (slice n s q v) x)) (λ x. x)
      (or_cases (not (slice n s q v)) (meets b q) (all_sets_at n (λ x. not (slice n s x v) || meets b x) e q h))

  all_met : (b v : ℕ) → ((q : ℕ) → q < 2 ^ n → In q v → s q v ≡ true → meets b q ≡ true) → overlaps_slices n s b v ≡ true
  unfolding overlaps_slices slice
  all_met b v f =
      at_all_sets n (λ q. not (slice n s q v) || meets b q) (λ q h.
      ⊎_elim
      (λ x. let w = and_parts (has q v) (s q v) x in or_right (not (slice n s q v)) (meets b q) (f q h w.0 w.1))
      (λ x. or_left (not (slice n s q v)) (meets b q) (ap not x))
      (either (slice n s q v)))

  -- what b misses lies outside b
  missed : (b q : ℕ) → q < 2 ^ n → meets b q ≡ false → Sub q (others n b)
  missed b q h e i p =
      others_in n b i (has_below n q i h p) (fails (has b i) (λ x. none_in (b ∩ q) i (not-meets b q e) (∩_in b q i x p)))

  module _ (mono : Monotone s) where
    -- a set that contains b blocks whatever b blocks
    pub blocks_grows : (b c v : ℕ) → Sub b c → blocks n s b v ≡ true → blocks n s c v ≡ true
    blocks_grows b c v f e =
        holds (blocks n s c v) (λ x.
        let w = unblocked c v x in
        clash (blocks n s b v) e
        (not_blocked b v (fails (has b v) (λ y. clash (has c v) (f v y) w.0))
        (mono (others n c) (others n b) v (λ i p.
        let q = others_out n c i p in
        others_in n b i q.0 (fails (has b i) (λ y. clash (has c i) (f i y) q.1))) w.1)))

    pub blocks_slices : (b v : ℕ) → v < n → blocks n s b v ≡ overlaps_slices n s b v
    blocks_slices b v l =
        bool_ext (blocks n s b v) (overlaps_slices n s b v)
        (λ e. all_met b v (λ q k p m. holds (meets b q) (λ x.
        clash (blocks n s b v) e
        (not_blocked b v (others_out n b v (missed b q k x v p)).1 (mono q (others n b) v (missed b q k x) m)))))
        (λ e. holds (blocks n s b v) (λ x.
        let w = unblocked b v x in
        clash (meets b (others n b))
        (slice_met b v (others n b) e (others_lt n b) (others_in n b v l w.0) w.1)
        (meets-not b (others n b) (and_comm b (others n b) ∙ apart_none n (others n b) b (others_lt n b) (λ i p. (others_out n b i p).1)))))

  -- ---- the nodes outside b are a plain quorum, or there are none
  pub blocks-none : (b : ℕ) → b < 2 ^ n → (quorum n s nobody (others n b) || eqb b (everyone n)) ≡ each n (others n b) (λ v. not (blocks n s b v))
  blocks-none b h =
      bool_ext (quorum n s nobody (others n b) || eqb b (everyone n)) (each n (others n b) (λ v. not (blocks n s b v)))
      (λ e. at_each n (others n b) (λ v. not (blocks n s b v)) (others_lt n b) (λ i p.
      ⊎_elim
      (λ x. ap not (not_blocked b i (others_out n b i p).1 (alone i ((quorum_is n s nobody (others n b) x).met i p))))
      (λ x. none_in (others n b) i (others_nobody n b (eqb-true b (everyone n) x)) p)
      (or_cases (quorum n s nobody (others n b)) (eqb b (everyone n)) e)))
      (λ e. ⊎_elim
      (λ x. or_right (quorum n s nobody (others n b)) (eqb b (everyone n)) (eq-eqb b (everyone n) (nobody_others n b h (eqb-true (others n b) 0 x))))
      (λ x. or_left (quorum n s nobody (others n b)) (eqb b (everyone n)) (is_quorum n s nobody (others n b) (left (eqb-false (others n b) 0 x) e)))
      (either (eqb (others n b) 0)))
    where
      -- with nobody counted out, the nodes outside b satisfy as they are
      alone : (i : ℕ) → s (others n b ∪ nobody) i ≡ true → s (others n b) i ≡ true
      alone i m = ap (λ (u : ℕ). s u i) (sym (or_zero_r (others n b))) ∙ m

      left : ¬ (others n b ≡ nobody) → each n (others n b) (λ v. not (blocks n s b v)) ≡ true → Quorum n s nobody (others n b)
      left z e =
          record {
            some_node = z;
            below = others_lt n b;
            apart = λ i p. has-nobody i;
            met = λ i p.
                ap (λ (u : ℕ). s u i) (or_zero_r (others n b))
                ∙ (unblocked b i (not-holds (blocks n s b i) (each_at n (others n b) (λ v. not (blocks n s b v)) e i p))).1;
          }

  -- so d is a DSet when it blocks no node outside it and, with d counted out, all quorums intersect
  pub dset-blocks-none : (d : ℕ) → d < 2 ^ n → dset n s d ≡ (intersecting n s d && each n (others n d) (λ v. not (blocks n s d v)))
  unfolding dset
  dset-blocks-none d h = ap (λ (b : Bool). intersecting n s d && b) (blocks-none d h)
