-- What is known of the record of an unknown archive, and what makes a record one: its four tests, taken apart and put together.
use mathlib.Core.Path.{◌≡◌}
use mathlib.Core.Bool.{true, false, ◌&&◌}
use mathlib.Core.List.{List}
use Prim.Native.Nat.{ℕ, ◌<◌}
use native.Mathlib.Omega.{arith}
use borrow.Author.Tests.{eq-eqb, eqb-true}
use lib.Dec.{eqb}
use lib.ListN.{length}
use Rattle.sets.specs.Sets.{empty}
use Rattle.sets.proofs.Bools.{and_parts, and_both, fails}
use Rattle.meanings.specs.Table.{threshold, level, members, inner_sets, unknown}

pub record UnknownRecord (t : List ℕ) (r : ℕ) : Type 0 where
  pub no-threshold : threshold t r ≡ 0
  pub head : level t r ≡ 0
  pub no-members : members t r ≡ 0
  pub no_inner : length (inner_sets t r) ≡ 0

module _ (t : List ℕ) (r : ℕ) where
  pub unknown_record : unknown t r ≡ true → UnknownRecord t r
  unfolding unknown
  unknown_record e =
      let a = eqb (threshold t r) 0 in
      let b = eqb (level t r) 0 in
      let c = empty (members t r) in
      let d = eqb (length (inner_sets t r)) 0 in
      let p = and_parts (a && b && c) d e in
      let q = and_parts (a && b) c p.0 in
      let s = and_parts a b q.0 in
      record {
        no-threshold = eqb-true (threshold t r) 0 s.0;
        head = eqb-true (level t r) 0 s.1;
        no-members = eqb-true (members t r) 0 q.1;
        no_inner = eqb-true (length (inner_sets t r)) 0 p.1;
      }

  pub record_unknown : UnknownRecord t r → unknown t r ≡ true
  unfolding unknown
  record_unknown u =
      let a = eqb (threshold t r) 0 in
      let b = eqb (level t r) 0 in
      let c = empty (members t r) in
      let d = eqb (length (inner_sets t r)) 0 in
      let p = and_both a b (eq-eqb (threshold t r) 0 u.no-threshold) (eq-eqb (level t r) 0 u.head) in
      let q = and_both (a && b) c p (eq-eqb (members t r) 0 u.no-members) in
      and_both (a && b && c) d q (eq-eqb (length (inner_sets t r)) 0 u.no_inner)

  -- a record that waits for somebody is known
  pub threshold_known : 0 < threshold t r → unknown t r ≡ false
  threshold_known h = fails (unknown t r) (λ e. let z = (unknown_record e).no-threshold in omega arith)
