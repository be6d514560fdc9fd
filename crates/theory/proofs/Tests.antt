-- The tests of a quorum, one after another: it has nodes, none of them is counted out, and each is satisfied.
use mathlib.Core.Path.{◌≡◌, refl, sym, ap}
use mathlib.Core.Bool.{Bool, false, not, ◌&&◌}
use Prim.Native.Nat.{ℕ, ◌^◌, ◌<◌}
use borrow.Author.Tests.{eq-eqb, ne_eqb}
use lib.Pow.{pow_pos}
use Rattle.sets.specs.Sets.{has, nobody, ◌∪◌, ◌∩◌, empty, within, each}
use Rattle.sets.proofs.Bools.{clash, fails, and_both, and_left_fails}
use Rattle.sets.proofs.Members.{has_below, ∩_in, ∩_out, ∩-lt, none_in, sub_antisym, sub_within}
use Rattle.meanings.specs.Quorums.{whole_ground, quorum}
use Rattle.theory.proofs.Quorum.{quorum_is, ground_in}

module _ (n : ℕ) (s : ℕ → ℕ → Bool) (d c : ℕ) where
  pub no-nodes : c ≡ nobody → false ≡ quorum n s d c
  unfolding quorum
  no-nodes e = sym (and_left_fails (not (empty c) && within c (whole_ground n d)) (each n c (λ v. s (c ∪ d) v))
      (and_left_fails (not (empty c)) (within c (whole_ground n d)) (ap not (eq-eqb c 0 e))))

  pub counted_out : ¬ (c ∩ d ≡ nobody) → c < 2 ^ n → false ≡ quorum n s d c
  counted_out z h =
      sym (fails (quorum n s d c) (λ e.
      z (sub_antisym n (c ∩ d) nobody (∩-lt n c d h) (pow_pos n)
      (λ i p. let q = ∩_out c d i p in clash (has d i) q.1 ((quorum_is n s d c e).apart i q.0))
      (λ i p. none_in nobody i refl p))))

  pub as_settled : ¬ (c ≡ nobody) → c ∩ d ≡ nobody → c < 2 ^ n → each n c (λ v. s (c ∪ d) v) ≡ quorum n s d c
  unfolding quorum
  as_settled z e h =
      sym (ap (λ (b : Bool). b && each n c (λ v. s (c ∪ d) v))
      (and_both (not (empty c)) (within c (whole_ground n d)) (ap not (ne_eqb c 0 z))
      (sub_within n c (whole_ground n d) h (λ i p. ground_in n d i (has_below n c i h p) (fails (has d i) (λ x. none_in (c ∩ d) i e (∩_in c d i p x)))))))
