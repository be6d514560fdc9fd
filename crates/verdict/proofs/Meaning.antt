-- The search's answer keeps the promise. A table's satisfaction is monotone, so the theory of the verdict's tree speaks of it: a yes is said
-- only where all quorums of the rest intersect, and a no with two that do not. Demand says what follows for whoever is answered.
use mathlib.Core.Path.{◌≡◌, sym, ap, ◌∙◌, subst}
use mathlib.Core.Bool.{Bool, true, false}
use mathlib.Core.List.{List}
use Prim.Native.Nat.{ℕ, suc, ◌^◌, ◌≤◌, ◌<◌}
use native.Mathlib.Nat.{zero-add}
use mathlib.Core.Logic.{⊎_elim}
use Rattle.sets.proofs.Size.{le-or-lt}
use borrow.Author.Tests.{le-leb, lt-leb}
use Rattle.std.specs.Prelude.{Result, Ok, Err}
use Rattle.sets.specs.Sets.{size}
use Rattle.meanings.specs.Table.{nodes, satisfied}
use Rattle.meanings.specs.Quorums.{whole_ground, intersecting, disjoint_quorums}
use Rattle.meanings.specs.Trees.{Pair, Walk, hit, missed, stuck, verdict_tree, walk}
use Rattle.meanings.specs.Questions.{verdict_reply, verdict_says as reply_says}
use Rattle.theory.proofs.Verdict.{Decided, all_meet, two_apart, decided, sound_disjoint}
use Rattle.satisfaction.proofs.Monotone.{satisfied_monotone}
use Rattle.answers.specs.Said.{refusal_says, verdict_says}
use Rattle.answers.specs.declared.Refusal.{Refusal}
use Rattle.answers.specs.declared.Refusal.TheVariants.{Spent, Unsplit}
use Rattle.answers.specs.declared.Verdict.{Verdict}
use Rattle.answers.specs.declared.Verdict.TheVariants.{Yes, No}
use Rattle.answers.proofs.Exact.{verdict_exact}
use Rattle.verdict.specs.Search.{within}
use Rattle.verdict.specs.Promise.{VerdictPromise}
use Rattle.verdict.proofs.Allowance.{count}

-- the answer without an allowance
abbrev pub plain : Walk Pair → Result Verdict Refusal
plain (missed k) = Ok (Yes k)
plain (hit p k) = Ok (No p.first p.second k)
plain (stuck k) = Err Unsplit

-- what an allowance makes of it: in time, and too late
pub in_time_lem : (allowance : ℕ) (w : Walk Pair) → count w ≤ allowance → within allowance 0 w ≡ plain w
in_time_lem allowance (missed k) l = rw (zero-add k, le-leb k allowance l)
in_time_lem allowance (hit p k) l = rw (zero-add k, le-leb k allowance l)
in_time_lem allowance (stuck k) l = rw (zero-add k, le-leb k allowance l)

pub too_late : (allowance : ℕ) (w : Walk Pair) → allowance < count w → within allowance 0 w ≡ Err (Spent allowance)
too_late allowance (missed k) l = rw (zero-add k, lt-leb k allowance l)
too_late allowance (hit p k) l = rw (zero-add k, lt-leb k allowance l)
too_late allowance (stuck k) l = rw (zero-add k, lt-leb k allowance l)

-- the answer says what the reply says
pub says_within : (allowance : ℕ) (w : Walk Pair) → verdict_says (within allowance 0 w) ≡ reply_says allowance w
says_within allowance w = ⊎_elim early late (le-or-lt (count w) allowance)
  where
    early : count w ≤ allowance → verdict_says (within allowance 0 w) ≡ reply_says allowance w
    early l = ap verdict_says (in_time_lem allowance w l) ∙ go w l
      where
        go : (w : Walk Pair) → count w ≤ allowance → verdict_says (plain w) ≡ reply_says allowance w
        go (missed k) m = rw (le-leb k allowance m)
        go (hit p k) m = rw (le-leb k allowance m)
        go (stuck k) m = rw (le-leb k allowance m)

    late : allowance < count w → verdict_says (within allowance 0 w) ≡ reply_says allowance w
    late l = ap verdict_says (too_late allowance w l) ∙ go w l
      where
        go : (w : Walk Pair) → allowance < count w → verdict_says (Err (Spent allowance)) ≡ reply_says allowance w
        go (missed k) m = rw (lt-leb k allowance m)
        go (hit p k) m = rw (lt-leb k allowance m)
        go (stuck k) m = rw (lt-leb k allowance m)

-- a verdict is the answer without an allowance
answered : (allowance : ℕ) (w : Walk Pair) (v : Verdict) → within allowance 0 w ≡ Ok v → plain w ≡ Ok v
answered allowance w v e =
    ⊎_elim (λ l. sym (in_time_lem allowance w l) ∙ e) (λ l. let late = sym (too_late allowance w l) ∙ e in cc) (le-or-lt (count w) allowance)

module _ (t : List ℕ) (d allowance : ℕ) where
  abbrev n : ℕ
  n = nodes t

  abbrev s : ℕ → ℕ → Bool
  s = satisfied t

  abbrev answer : Result Verdict Refusal
  answer = within allowance 0 (walk (verdict_tree n s d))

  pub yes_means : (k : ℕ) → answer ≡ Ok (Yes k) → intersecting n s d ≡ true
  yes_means k e = go (decided n s d (satisfied_monotone t))
    where
      go : Decided n s d (satisfied_monotone t) → intersecting n s d ≡ true
      go (all_meet j w i few) = i
      go (two_apart x j w z i few) =
          let a = answered allowance (hit x j) (Yes k) (sym (ap (within allowance 0) w) ∙ e) in cc

  pub no_means : (p q k : ℕ) → answer ≡ Ok (No p q k) → (disjoint_quorums n s d p q ≡ true) × (intersecting n s d ≡ false)
  no_means p q k e = go (decided n s d (satisfied_monotone t))
    where
      go : Decided n s d (satisfied_monotone t) → (disjoint_quorums n s d p q ≡ true) × (intersecting n s d ≡ false)
      go (all_meet j w i few) =
          let a = answered allowance (missed j) (No p q k) (sym (ap (within allowance 0) w) ∙ e) in cc
      go (two_apart x j w z i few) =
          let a = answered allowance (hit x j) (No p q k) (sym (ap (within allowance 0) w) ∙ e) in
          let f : x.first ≡ p = cc in
          let g : x.second ≡ q = cc in (
            subst (λ (m : ℕ). disjoint_quorums n s d p m ≡ true) g
                (subst (λ (m : ℕ). disjoint_quorums n s d m x.second ≡ true) f (sound_disjoint n s d (satisfied_monotone t) x z)),
            i,
          )

-- the walk of the verdict's tree takes no more than 2 ^ (a + 1) - 1 visits, where a nodes are not counted out
pub visits_few : (t : List ℕ) (d : ℕ) → suc (count (walk (verdict_tree (nodes t) (satisfied t) d))) ≤ 2 ^ suc (size (nodes t) (whole_ground (nodes t) d))
visits_few t d = go (decided (nodes t) (satisfied t) d (satisfied_monotone t))
  where
    few : Walk Pair → Type 0
    few w = suc (count w) ≤ 2 ^ suc (size (nodes t) (whole_ground (nodes t) d))

    go : Decided (nodes t) (satisfied t) d (satisfied_monotone t) → few (walk (verdict_tree (nodes t) (satisfied t) d))
    go (all_meet j w i l) = subst few (sym w) l
    go (two_apart x j w z i l) = subst few (sym w) l

-- Two answers that both fit the promise are equal.
pub verdict_unique : (t : List ℕ) (d allowance : ℕ) (x y : Result Verdict Refusal) → VerdictPromise t d allowance x → VerdictPromise t d allowance y → x ≡ y
verdict_unique t d allowance x y p q = verdict_exact x y (p.told ∙ sym q.told)

-- ---- the promise, kept by each way out of the operation
pub kept_refused : (t : List ℕ) (d allowance : ℕ) (e : Refusal) → refusal_says e ≡ verdict_reply t d allowance → VerdictPromise t d allowance (Err e)
kept_refused t d allowance e f = record { told = f; yes_means = λ k x. cc; no_means = λ p q k x. cc }

pub kept_search : (t : List ℕ) (d allowance : ℕ) (r : Result Verdict Refusal) → r ≡ within allowance 0 (walk (verdict_tree (nodes t) (satisfied t) d))
    → verdict_says r ≡ verdict_reply t d allowance → VerdictPromise t d allowance r
kept_search t d allowance r w e =
    record {
      told = e;
      yes_means = λ k x. yes_means t d allowance k (sym w ∙ x);
      no_means = λ p q k x. no_means t d allowance p q k (sym w ∙ x);
    }
