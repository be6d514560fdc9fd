-- An answer within an allowance, put together from the two branches of a split: a branch that ends otherwise than with a yes ends the
-- whole, and a yes hands its visits on. Every walk makes a visit, so an allowance that is spent ends the next one.
use mathlib.Core.Path.{◌≡◌, refl, sym, ap, ◌∙◌, subst}
use mathlib.Core.Bool.{Bool, true, false, cond}
use Prim.Native.Nat.{ℕ, suc, ◌+◌, ◌≤◌, ◌<◌}
use native.Mathlib.Nat.{le_refl}
use native.Mathlib.Omega.{arith}
use borrow.Author.Tests.{le-leb, lt-leb, leb-false}
use lib.Dec.{leb}
use Rattle.std.specs.Prelude.{Result, Ok, Err}
use Rattle.meanings.specs.Trees.{Tree, leaf, found, unsplit, fork, Pair, Walk, hit, missed, stuck, later, then_walk, walk}
use Rattle.answers.specs.declared.Refusal.{Refusal}
use Rattle.answers.specs.declared.Refusal.TheVariants.{Spent, Unsplit}
use Rattle.answers.specs.declared.Verdict.{Verdict}
use Rattle.answers.specs.declared.Verdict.TheVariants.{Yes, No}
use Rattle.verdict.specs.Search.{in_time, within}

abbrev pub NotYes : Result Verdict Refusal → Type 0
NotYes (Ok (Yes k)) = ⊥
NotYes (Ok (No a b k)) = Unit {0}
NotYes (Err e) = Unit {0}

-- how many visits a walk made
abbrev pub count : Walk Pair → ℕ
count (hit p k) = k
count (missed k) = k
count (stuck k) = k

later_counts : (j : ℕ) (w : Walk Pair) → j ≤ count (later j w)
later_counts j (hit p k) = omega arith
later_counts j (missed k) = omega arith
later_counts j (stuck k) = omega arith

then_counts : (x y : Walk Pair) → 1 ≤ count (then_walk x y)
then_counts (hit p k) y = omega arith
then_counts (missed k) y = let l = later_counts (suc k) y in omega arith
then_counts (stuck k) y = omega arith

pub walk_counts : (x : Tree Pair) → 1 ≤ count (walk x)
unfolding walk
walk_counts leaf = le_refl 1
walk_counts (found p) = le_refl 1
walk_counts unsplit = le_refl 1
walk_counts (fork x y) = then_counts (walk x) (walk y)

module _ (allowance spent : ℕ) where
  over_time : (w : Walk Pair) → allowance < spent + count w → Err (Spent allowance) ≡ within allowance spent w
  over_time (hit p k) h = rw (lt-leb (spent + k) allowance h)
  over_time (missed k) h = rw (lt-leb (spent + k) allowance h)
  over_time (stuck k) h = rw (lt-leb (spent + k) allowance h)

  pub all_spent : (x : Tree Pair) → allowance ≤ spent → Err (Spent allowance) ≡ within allowance spent (walk x)
  all_spent x h = over_time (walk x) (let l = walk_counts x in omega arith)

  pub stuck_here : spent < allowance → (w : Walk Pair) → w ≡ stuck 1 → Err Unsplit ≡ within allowance spent w
  stuck_here h w e = rw e (rw (le-leb (spent + 1) allowance (omega arith)))

  same : (j k : ℕ) → spent + 1 + k + j ≡ spent + (suc k + j)
  same j k = omega arith

  next : (w : Walk Pair) (k : ℕ) → within allowance (spent + 1 + k) w ≡ within allowance spent (later (suc k) w)
  next (hit p j) k = ap (λ (m : ℕ). in_time allowance m (Ok (No p.first p.second m))) (same j k)
  next (missed j) k = ap (λ (m : ℕ). in_time allowance m (Ok (Yes m))) (same j k)
  next (stuck j) k = ap (λ (m : ℕ). in_time allowance m (Err Unsplit)) (same j k)

  one_more : (k : ℕ) → spent + 1 + k ≡ spent + suc k
  one_more k = omega arith

  -- the first branch's answer is handed on, unless it is yes
  pub first_ends : (x y : Walk Pair) (o : Result Verdict Refusal) → o ≡ within allowance (spent + 1) x → NotYes o → o ≡ within allowance spent (then_walk x y)
  first_ends (hit p k) y o e z = e ∙ ap (λ (m : ℕ). in_time allowance m (Ok (No p.first p.second m))) (one_more k)
  first_ends (stuck k) y o e z = e ∙ ap (λ (m : ℕ). in_time allowance m (Err Unsplit)) (one_more k)
  first_ends (missed k) y o e z = e ∙ go (leb (spent + 1 + k) allowance) refl (subst NotYes e z)
    where
      go : (b : Bool) → leb (spent + 1 + k) allowance ≡ b → NotYes (cond b (Ok (Yes (spent + 1 + k))) (Err (Spent allowance)))
          → cond b (Ok (Yes (spent + 1 + k))) (Err (Spent allowance)) ≡ within allowance spent (later (suc k) y)
      go true q w = absurd w
      go false q w =
          over_time (later (suc k) y) (let l = later_counts (suc k) y in let m = leb-false (spent + 1 + k) allowance q in omega arith)

  -- after a yes, the second branch's answer is the whole's
  pub second_ends : (x y : Walk Pair) (k : ℕ) → Ok (Yes k) ≡ within allowance (spent + 1) x → within allowance k y ≡ within allowance spent (then_walk x y)
  second_ends (missed j) y k e = go (leb (spent + 1 + j) allowance) e
    where
      go : (b : Bool) → Ok (Yes k) ≡ cond b (Ok (Yes (spent + 1 + j))) (Err (Spent allowance)) → within allowance k y ≡ within allowance spent (later (suc j) y)
      go true q = let z : k ≡ spent + 1 + j = cc in ap (λ (m : ℕ). within allowance m y) z ∙ next y j
      go false q = absurd (subst NotYes (sym q) tt)
  second_ends (hit p j) y k e = absurd (subst NotYes (sym e) (go (leb (spent + 1 + j) allowance)))
    where
      go : (b : Bool) → NotYes (cond b (Ok (No p.first p.second (spent + 1 + j))) (Err (Spent allowance)))
      go true = tt
      go false = tt
  second_ends (stuck j) y k e = absurd (subst NotYes (sym e) (go (leb (spent + 1 + j) allowance)))
    where
      go : (b : Bool) → NotYes (cond b (Err Unsplit) (Err (Spent allowance)))
      go true = tt
      go false = tt
