-- Unknown archives of a table. No set satisfies the record of one, so all that holds of a node that no set satisfies holds of it.
--
-- In a sound table everyone together satisfies every other node: its members are nodes of the table, its inner sets wait for somebody and are
-- satisfied for the same reason, and its threshold is no more than its entries. So the empty set blocks the unknown archives and no others, and all
-- nodes together are a quorum exactly where no archive is unknown.
use mathlib.Core.Path.{◌≡◌, refl, sym, ap, ◌∙◌}
use mathlib.Core.Bool.{Bool, true, false, not}
use mathlib.Core.Logic.{⊎_elim}
use mathlib.Core.List.{List}
use Prim.Native.Nat.{ℕ, zero, suc, ◌+◌, ◌-◌, ◌<◌, ◌≤◌}
use native.Mathlib.Omega.{arith}
use lib.Bits.{or_zero_r}
use lib.ListN.{length}
use borrow.Author.Tests.{eqb-true, eqb-false, le-leb}
use Rattle.sets.specs.Sets.{has, nobody, everyone, size, ◌∩◌, within, each}
use Rattle.sets.specs.Lists.{keep}
use Rattle.sets.proofs.Bools.{either, clash, fails, bool_ext}
use Rattle.sets.proofs.Members.{has-nobody, has-everyone, has_below, none_in, everyone-lt, each_at, at_each}
use Rattle.sets.proofs.Listing.{Among}
use Rattle.meanings.specs.Table.{records, nodes, members, threshold, level, head_of, inner_sets, entries, unknown, satisfies, satisfied}
use Rattle.meanings.specs.Faults.{check, sound, bad_level}
use Rattle.meanings.specs.Of as of
use Rattle.theory.proofs.Quorum.{quorum_is, is_quorum}
use Rattle.theory.proofs.NoQuorum.{Never, never_in_quorum, never_in_greatest, never_in_minimal, never_in_blocking, never_blocked, never_intact, all_never, nobody_blocks_node}
use Rattle.tables.proofs.Heads.{head_of-lt}
use Rattle.tables.proofs.Runs.{inner_from_lem, inner_count}
use Rattle.tables.proofs.Sound.{sound_table}
use Rattle.satisfaction.specs.Judged.{holds}
use Rattle.satisfaction.proofs.Suffice.{unknown_never, unknown-zero, waiting-suffice}
use Rattle.satisfaction.proofs.Laws.{run_same, judged}

-- ---- an unknown archive
satisfies-unknown : (left : ℕ) (t : List ℕ) (u r : ℕ) → unknown t r ≡ true → satisfies left t u r ≡ false
unfolding satisfies
satisfies-unknown zero t u r e = unknown_never t r e (size 64 (members t r ∩ u))
satisfies-unknown (suc left) t u r e = unknown_never t r e (size 64 (members t r ∩ u) + length (keep (λ j. satisfies left t u j) (inner_sets t r)))

pub unknown_unsatisfied : (t : List ℕ) (v : ℕ) → unknown t (head_of t v) ≡ true → Never (satisfied t) v
unfolding satisfied
unknown_unsatisfied t v e u = satisfies-unknown 3 t u (head_of t v) e

module _ (t : List ℕ) (v : ℕ) (e : unknown t (head_of t v) ≡ true) where
  never : Never (satisfied t) v
  never = unknown_unsatisfied t v e

  -- whoever is counted out, it stands in no quorum
  pub unknown_in_no_quorum : (d q : ℕ) → of.quorum t d q ≡ true → has q v ≡ false
  unknown_in_no_quorum d q a = never_in_quorum (nodes t) (satisfied t) v never d q (quorum_is (nodes t) (satisfied t) d q a)

  pub unknown-not-greatest : (d u : ℕ) → has (of.greatest t d u) v ≡ false
  unknown-not-greatest = never_in_greatest (nodes t) (satisfied t) v never

  pub unknown-not-minimal : (q : ℕ) → Among q (of.minimal_quorums t) → has q v ≡ false
  unknown-not-minimal = never_in_minimal (nodes t) (satisfied t) v never

  pub unknown-not-blocking : (b : ℕ) → Among b (of.minimal_blocking_sets t) → has b v ≡ false
  unknown-not-blocking = never_in_blocking (nodes t) (satisfied t) v never

  -- every set blocks it, the empty one too
  pub unknown_blocked : (b : ℕ) → of.blocks t b v ≡ true
  unknown_blocked = never_blocked (nodes t) (satisfied t) v never

  pub unknown-not-intact : (b : ℕ) → has (of.intact_nodes t b) v ≡ false
  unknown-not-intact = never_intact (nodes t) (satisfied t) v never

pub all-unknown-no-quorum : (t : List ℕ) → ((v : ℕ) → v < nodes t → unknown t (head_of t v) ≡ true) → (d u : ℕ) → of.holds_quorum t d u ≡ false
all-unknown-no-quorum t f = all_never (nodes t) (satisfied t) (λ v l. unknown_unsatisfied t v (f v l))

-- ---- every other node of a sound table
module _ (t : List ℕ) (e : check t ≡ sound) where
  abbrev all : ℕ
  all = everyone (nodes t)

  -- where everyone satisfies the sets one level further down, all inner sets count
  all_inner : (r : ℕ) → r < records t → ((j : ℕ) → j < records t → level t j ≡ suc (level t r) → holds t all j ≡ true)
      → length (keep (holds t all) (inner_sets t r)) ≡ length (inner_sets t r)
  all_inner r l f =
      let steps : (j : ℕ) → j < records t → bad_level t j ≡ false = λ j l'. ((sound_table t e).at j l').in_step in
      inner_from_lem t r steps (holds t all) l
      ∙ run_same t e (holds t all) (λ j. true) (level t r) f (records t - (r + 1)) (r + 1) (omega arith)
      ∙ sym (inner_count t r steps l)

  all-members : (r : ℕ) → r < records t → members t r ∩ all ≡ members t r
  unfolding within
  all-members r l = eqb-true (members t r ∩ all) (members t r) ((sound_table t e).at r l).members_in

  everyone_counts : (r : ℕ) → r < records t → 0 < threshold t r → ((j : ℕ) → j < records t → level t j ≡ suc (level t r) → holds t all j ≡ true) → holds t all r ≡ true
  unfolding entries
  everyone_counts r l h f =
      let inner = all_inner r l f in
      let met : size 64 (members t r ∩ all) ≡ size 64 (members t r) = ap (size 64) (all-members r l) in
      let k = size 64 (members t r ∩ all) + length (keep (holds t all) (inner_sets t r)) in
      let enough : threshold t r ≤ k = let w = ((sound_table t e).at r l).threshold-le in omega arith in
      judged t e all r l ∙ waiting-suffice t r h k ∙ le-leb (threshold t r) k enough

  -- n levels lie below r at the most
  everyone-holds : (n r : ℕ) → r < records t → 0 < threshold t r → 3 ≤ n + level t r → holds t all r ≡ true
  everyone-holds zero r l h d = everyone_counts r l h (λ j l' q. let b = ((sound_table t e).at j l').level-le in absurd (omega arith))
  everyone-holds (suc n) r l h d =
      everyone_counts r l h (λ j l' q. everyone-holds n j l' (((sound_table t e).at j l').inner_pos (omega arith)) (omega arith))

  -- everyone together satisfies the nodes that are known
  pub everyone-satisfies : (v : ℕ) → v < nodes t → satisfied t all v ≡ not (unknown t (head_of t v))
  unfolding satisfied
  everyone-satisfies v l =
      let r = head_of t v in
      let k = head_of-lt t v l in
      ⊎_elim (λ p. satisfies-unknown 3 t all r p ∙ sym (ap not p))
      (λ (p : unknown t r ≡ false).
      let h = eqb-false (threshold t r) 0 (sym (unknown-zero t e r k) ∙ p) in
      everyone-holds 3 r k (omega arith) (omega arith) ∙ sym (ap not p))
      (either (unknown t r))

  -- the empty set blocks the unknown archives and no others
  pub nobody-blocks-unknown : (v : ℕ) → v < nodes t → of.blocks t nobody v ≡ unknown t (head_of t v)
  nobody-blocks-unknown v l = nobody_blocks_node (nodes t) (satisfied t) v ∙ ap not (everyone-satisfies v l) ∙ twice (unknown t (head_of t v))
    where
      twice : (b : Bool) → not (not b) ≡ b
      twice true = refl
      twice false = refl

  -- all nodes together are a quorum exactly where none is unknown
  pub everyone-quorum : of.quorum t nobody all ≡ each (nodes t) all (λ v. not (unknown t (head_of t v)))
  everyone-quorum =
      let n = nodes t in
      let s = satisfied t in
      let known : ℕ → Bool = λ v. not (unknown t (head_of t v)) in
      bool_ext (of.quorum t nobody all) (each n all known)
      (λ q. at_each n all known (everyone-lt n) (λ v p.
      ap not (fails (unknown t (head_of t v)) (λ u. clash (has all v) p (unknown_in_no_quorum t v u nobody all q)))))
      (λ q. is_quorum n s nobody all (record {
        some_node = λ z. none_in all 0 z (has-everyone n 0 (sound_table t e).has_node);
        below = everyone-lt n;
        apart = λ v p. has-nobody v;
        met = λ v p.
            ap (λ (u : ℕ). s u v) (or_zero_r all)
            ∙ everyone-satisfies v (has_below n all v (everyone-lt n) p)
            ∙ each_at n all known q v p;
      }))
