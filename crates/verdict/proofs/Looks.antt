-- What a visit comes to, step by step: each way out of the steps before the split settles the walk below the visit.
use mathlib.Core.Path.{◌≡◌, sym, ap, ap₂, ◌∙◌, subst}
use mathlib.Core.Bool.{Bool, true, false}
use mathlib.Core.List.{List}
use Prim.Native.Nat.{ℕ, ◌/◌, ◌^◌, ◌≤◌, ◌<◌}
use native.Mathlib.Omega.{arith}
use borrow.Author.Tests.{lt-ltb, le-ltb}
use Rattle.sets.specs.Sets.{nobody, only, ◌∪◌, ◌∖◌, size, lowest}
use Rattle.sets.proofs.Bools.{fails}
use Rattle.sets.proofs.Members.{Sub, ∖-lt, ∖_out}
use Rattle.sets.proofs.Size.{size_at}
use Rattle.sets.proofs.Lowest.{lowest_at}
use Rattle.meanings.specs.Table.{nodes, satisfied}
use Rattle.meanings.specs.Quorums.{whole_ground, quorum, greatest, holds_quorum}
use Rattle.meanings.specs.Trees.{hit, missed, stuck, found_if, over_half, pair_at, walk, then_walk}
use Rattle.theory.proofs.Quorum.{ground-lt}
use Rattle.theory.proofs.Greatest.{greatest-holds, holds-greatest}
use Rattle.theory.proofs.QuorumTree.{choices, chosen, below, choices_lt, below_lt, fewer, tree_pruned, tree_dry, tree_quorum, tree_unsplit, tree_parts}
use Rattle.greatest.specs.Greatest.{holding, Due}
use Rattle.greatest.proofs.Laws.{holding-nobody}
use Rattle.quorum_visits.specs.declared.Visit.{Visit}
use Rattle.quorum_visits.specs.Visits.{dry}
use Rattle.verdict.specs.declared.Question.{Question}
use Rattle.verdict.specs.Search.{Visiting, tree_of}
use Rattle.verdict.proofs.Root.{ground_due}

module _ (t : List ℕ) (d c r : ℕ) where
  abbrev n : ℕ
  n = nodes t

  abbrev s : ℕ → ℕ → Bool
  s = satisfied t

  -- (1)
  pub over_half_lem : over_half n s d c ≡ true → walk (tree_of t d c r) ≡ missed 1
  unfolding walk
  over_half_lem e = ap walk (tree_pruned n s d (over_half n s d) (pair_at n s d) n c r e)

  pub over : (size_c : ℕ) → size_c ≡ size 64 c → c < 2 ^ n → n ≤ 64 → (half : ℕ) → half ≡ size n (whole_ground n d) / 2 → half < size_c → over_half n s d c ≡ true
  unfolding over_half
  over k e h m half f l =
      let w = size_at n c h 64 m in
      lt-ltb (size n (whole_ground n d) / 2) (size n c) (omega arith)

  pub not_over : (size_c : ℕ) → size_c ≡ size 64 c → c < 2 ^ n → n ≤ 64 → (half : ℕ) → half ≡ size n (whole_ground n d) / 2 → size_c ≤ half → over_half n s d c ≡ false
  unfolding over_half
  not_over k e h m half f l =
      let w = size_at n c h 64 m in
      le-ltb (size n (whole_ground n d) / 2) (size n c) (omega arith)

  module _ (few : over_half n s d c ≡ false) where
    -- (2)
    pub dry_leaf : dry t d c r ≡ true → walk (tree_of t d c r) ≡ missed 1
    unfolding walk
    dry_leaf e = ap walk (tree_dry n s d (over_half n s d) (pair_at n s d) n c r few e)

    module _ (not-dry : dry t d c r ≡ false) where
      -- (3)
      module _ (q : quorum n s d c ≡ true) (h : ℕ) (eh : h ≡ greatest n s d (whole_ground n d ∖ c)) where
        at_quorum : walk (tree_of t d c r) ≡ walk (pair_at n s d c)
        at_quorum = ap walk (tree_quorum n s d (over_half n s d) (pair_at n s d) n c r few not-dry q)

        pub alone : h ≡ nobody → walk (tree_of t d c r) ≡ missed 1
        unfolding pair_at walk
        alone x =
            at_quorum
            ∙ ap (λ (b : Bool). walk (found_if b (record { first = c; second = greatest n s d (whole_ground n d ∖ c) })))
            (fails (holds_quorum n s d (whole_ground n d ∖ c)) (λ y. holds-greatest n s d (whole_ground n d ∖ c) y (sym eh ∙ x)))

        pub apart : ¬ (h ≡ nobody) → walk (tree_of t d c r) ≡ hit (record { first = c; second = h }) 1
        unfolding pair_at walk
        apart x =
            at_quorum
            ∙ ap (λ (b : Bool). walk (found_if b (record { first = c; second = greatest n s d (whole_ground n d ∖ c) })))
            (greatest-holds n s d (whole_ground n d ∖ c) (λ y. x (eh ∙ y)))
            ∙ ap (λ (y : ℕ). hit (record { first = c; second = y }) 1) (sym eh)

      -- (4)
      module _ (q : quorum n s d c ≡ false) (on : ℕ) (e : on ≡ choices n s d c r) where
        pub no_choice : on ≡ nobody → walk (tree_of t d c r) ≡ stuck 1
        unfolding walk
        no_choice z = ap walk (tree_unsplit n s d (over_half n s d) (pair_at n s d) n c r few not-dry q (sym e ∙ z))

        module _ (z : ¬ (on ≡ nobody)) (n64 : n ≤ 64) where
          some : ¬ (choices n s d c r ≡ nobody)
          some x = z (e ∙ x)

          pub low : lowest 64 on ≡ chosen n s d c r
          low = lowest_at n on z (subst (λ (x : ℕ). x < 2 ^ n) (sym e) (choices_lt n s d c r)) 64 n64 ∙ ap (lowest n) e

          pub parts : c < 2 ^ n → r < 2 ^ n → (v b : ℕ) → v ≡ lowest 64 on → b ≡ on ∖ only v
              → walk (tree_of t d c r) ≡ then_walk (walk (tree_of t d c b)) (walk (tree_of t d (c ∪ only v) b))
          unfolding walk
          parts hc hr v b ev eb =
              ap walk (tree_parts n s d (over_half n s d) (pair_at n s d) c r hc hr few not-dry q some)
              ∙ ap₂ (λ (x y : ℕ). then_walk (walk (tree_of t d c y)) (walk (tree_of t d (c ∪ only x) y))) (sym (ev ∙ low)) (sym (eb ∙ ap₂ (λ (x y : ℕ). x ∖ only y) e (ev ∙ low)))

          pub rest_fewer : r < 2 ^ n → (v b : ℕ) → v ≡ lowest 64 on → b ≡ on ∖ only v → size 64 b < size 64 r
          rest_fewer hr v b ev eb =
              let b_is : b ≡ below n s d c r = eb ∙ ap₂ (λ (x y : ℕ). x ∖ only y) e (ev ∙ low) in
              let f = subst (λ (x : ℕ). size n x < size n r) (sym b_is) (fewer n s d c r some hr) in
              let x = size_at n b (subst (λ (x : ℕ). x < 2 ^ n) (sym b_is) (below_lt n s d c r)) 64 n64 in
              let y = size_at n r hr 64 n64 in
              omega arith

-- ---- the tests of a visit
module _ {t : List ℕ} {q : Question} {a : Visit} (V : Visiting t q a) where
  half_whole : q.half ≡ size (nodes t) (whole_ground (nodes t) q.d) / 2
  half_whole = V.half_is ∙ ap (λ (x : ℕ). size (nodes t) x / 2) V.ground_is

  module _ {count : ℕ} (e : count ≡ size 64 a.c) where
    pub pruned : q.half < count → walk (tree_of t q.d a.c a.r) ≡ missed 1
    pruned l = over_half_lem t q.d a.c a.r (over t q.d a.c a.r count e V.stands.waiting.below V.small q.half half_whole l)

    pub few_chosen : count ≤ q.half → over_half (nodes t) (satisfied t) q.d a.c ≡ false
    few_chosen l = not_over t q.d a.c a.r count e V.stands.waiting.below V.small q.half half_whole l

  -- the greatest quorum outside the chosen nodes
  module _ {rest : ℕ} (e : rest ≡ q.ground ∖ a.c) where
    pub rest_due : Due t q.d rest rest nobody
    rest_due =
        ground_due t q.d q.ground rest V.ground_is
        (subst (λ (x : ℕ). x < 2 ^ nodes t) (sym e)
        (∖-lt (nodes t) q.ground a.c (subst (λ (x : ℕ). x < 2 ^ nodes t) (sym V.ground_is) (ground-lt (nodes t) q.d))))
        (subst (λ (x : ℕ). Sub x q.ground) (sym e) (λ i p. (∖_out q.ground a.c i p).0))

    pub outside : {h : ℕ} → h ≡ holding nobody (greatest (nodes t) (satisfied t) q.d rest) → h ≡ greatest (nodes t) (satisfied t) q.d (whole_ground (nodes t) q.d ∖ a.c)
    outside f =
        f ∙ sym (holding-nobody (greatest (nodes t) (satisfied t) q.d rest))
        ∙ ap (greatest (nodes t) (satisfied t) q.d) (e ∙ ap (λ (x : ℕ). x ∖ a.c) V.ground_is)
