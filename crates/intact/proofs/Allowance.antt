-- The answer within an allowance, put together verdict by verdict: a refused verdict refuses the question, and one that is answered has come to
-- its end in time and hands its visits on. Visits only grow, so an allowance that has ended stays ended.
use mathlib.Core.Path.{◌≡◌, refl, ap, ap₂, ◌∙◌}
use mathlib.Core.Bool.{Bool, true, false, cond}
use Prim.Native.Nat.{ℕ, ◌+◌, ◌≤◌, ◌<◌}
use native.Mathlib.Omega.{arith}
use borrow.Author.Tests.{lt-leb, leb-false}
use lib.Dec.{leb}
use Rattle.std.specs.Prelude.{Result, Ok, Err}
use Rattle.meanings.specs.Trees.{Pair, Walk, hit, missed, stuck}
use Rattle.meanings.specs.Intact.{Ended, intact_are, divided, stuck_after, ended_later, on_round, on_plain}
use Rattle.answers.specs.declared.Refusal.{Refusal}
use Rattle.answers.specs.declared.Refusal.TheVariants as Xx
use Rattle.answers.specs.declared.Verdict.{Verdict}
use Rattle.answers.specs.declared.Verdict.TheVariants as Vx
use Rattle.verdict.specs.Search.{within as verdict_within}
use Rattle.verdict.proofs.Allowance.{count}
use Rattle.intact.specs.Rounds.{in_time, within}

-- the visits up to an end
abbrev pub visits_of : Ended → ℕ
visits_of (intact_are q k) = k
visits_of (divided p k) = k
visits_of (stuck_after k) = k

later_counts : (j : ℕ) (e : Ended) → j ≤ visits_of (ended_later j e)
later_counts j (intact_are q k) = omega arith
later_counts j (divided p k) = omega arith
later_counts j (stuck_after k) = omega arith

-- What a question comes to after a verdict: no end before the verdict's visits, and number 13 where the verdict has it.
record Follows (w : Walk Pair) (e : Ended) : Type 0 where
  pub counts : count w ≤ visits_of e
  pub breaks : (j : ℕ) → w ≡ stuck j → e ≡ stuck_after j

module _ (n : ℕ) (s : ℕ → ℕ → Bool) where
  round_follows : (q : ℕ) (w : Walk Pair) (next : Pair → Ended) → Follows w (on_round n s q w next)
  round_follows q (missed k) next = record { counts = omega arith; breaks = λ j e. cc }
  round_follows q (hit p k) next = record { counts = later_counts k (next p); breaks = λ j e. cc }
  round_follows q (stuck k) next = record { counts = omega arith; breaks = λ j e. cc }

  plain_follows : (w : Walk Pair) (rounds : Ended) → Follows w (on_plain n s w rounds)
  plain_follows (missed k) rounds = record { counts = later_counts k rounds; breaks = λ j e. cc }
  plain_follows (hit p k) rounds = record { counts = omega arith; breaks = λ j e. cc }
  plain_follows (stuck k) rounds = record { counts = omega arith; breaks = λ j e. cc }

module _ (allowance spent : ℕ) where
  over_time : (e : Ended) → allowance < spent + visits_of e → Err (Xx.Spent allowance) ≡ within allowance spent e
  over_time (intact_are q k) h = rw (lt-leb (spent + k) allowance h)
  over_time (divided p k) h = rw (lt-leb (spent + k) allowance h)
  over_time (stuck_after k) h = rw (lt-leb (spent + k) allowance h)

  sum : (j k : ℕ) → spent + j + k ≡ spent + (j + k)
  sum j k = omega arith

  -- what comes j visits later, after so many, comes after j more
  pub after : (j : ℕ) (e : Ended) → within allowance (spent + j) e ≡ within allowance spent (ended_later j e)
  after j (intact_are q k) = ap (λ (m : ℕ). in_time allowance m (Ok (record { set = q; visits = m }))) (sum j k)
  after j (divided p k) = ap (λ (m : ℕ). in_time allowance m (Err (Xx.Divided p.first p.second m))) (sum j k)
  after j (stuck_after k) = ap (λ (m : ℕ). in_time allowance m (Err Xx.Unsplit)) (sum j k)

  late : (k : ℕ) (x : Ended) (e : Refusal) → k ≤ visits_of x → leb (spent + k) allowance ≡ false
      → ◌≡◌ {A = Result Verdict Refusal} (Err e) (Err (Xx.Spent allowance)) → Err e ≡ within allowance spent x
  late k x e l q w =
      let z : e ≡ Xx.Spent allowance = cc in
      ap Err z ∙ over_time x (let m = leb-false (spent + k) allowance q in omega arith)

  -- a refused verdict refuses the question
  refused : (w : Walk Pair) (x : Ended) → Follows w x → (e : Refusal) → Err e ≡ verdict_within allowance spent w → Err e ≡ within allowance spent x
  refused (missed k) x f e h = go (leb (spent + k) allowance) refl h
    where
      go : (b : Bool) → leb (spent + k) allowance ≡ b → Err e ≡ cond b (Ok (Vx.Yes (spent + k))) (Err (Xx.Spent allowance)) → Err e ≡ within allowance spent x
      go true q w = cc
      go false q w = late k x e f.counts q w
  refused (hit p k) x f e h = go (leb (spent + k) allowance) refl h
    where
      go : (b : Bool) → leb (spent + k) allowance ≡ b → Err e ≡ cond b (Ok (Vx.No p.first p.second (spent + k))) (Err (Xx.Spent allowance))
          → Err e ≡ within allowance spent x
      go true q w = cc
      go false q w = late k x e f.counts q w
  refused (stuck k) x f e h = go (leb (spent + k) allowance) refl h
    where
      go : (b : Bool) → leb (spent + k) allowance ≡ b → ◌≡◌ {A = Result Verdict Refusal} (Err e) (cond b (Err Xx.Unsplit) (Err (Xx.Spent allowance)))
          → Err e ≡ within allowance spent x
      go true q w = let z : e ≡ Xx.Unsplit = cc in rw (f.breaks k refl, q) (ap Err z)
      go false q w = late k x e f.counts q w

  -- a verdict that says yes or no has come to it, in time
  pub said-yes : (w : Walk Pair) (k : ℕ) → Ok (Vx.Yes k) ≡ verdict_within allowance spent w
      → (j : ℕ) × (w ≡ missed j) × (k ≡ spent + j) × (leb (spent + j) allowance ≡ true)
  said-yes (missed j) k e = go (leb (spent + j) allowance) refl e
    where
      go : (b : Bool) → leb (spent + j) allowance ≡ b → Ok (Vx.Yes k) ≡ cond b (Ok (Vx.Yes (spent + j))) (Err (Xx.Spent allowance))
          → (i : ℕ) × (◌≡◌ {A = Walk Pair} (missed j) (missed i)) × (k ≡ spent + i) × (leb (spent + i) allowance ≡ true)
      go true f q = let z : k ≡ spent + j = cc in (j, refl, z, f)
      go false f q = cc
  said-yes (hit p j) k e = absurd (go (leb (spent + j) allowance) e)
    where
      go : (b : Bool) → Ok (Vx.Yes k) ≡ cond b (Ok (Vx.No p.first p.second (spent + j))) (Err (Xx.Spent allowance)) → ⊥
      go true q = cc
      go false q = cc
  said-yes (stuck j) k e = absurd (go (leb (spent + j) allowance) e)
    where
      go : (b : Bool) → Ok (Vx.Yes k) ≡ cond b (Err Xx.Unsplit) (Err (Xx.Spent allowance)) → ⊥
      go true q = cc
      go false q = cc

  pub said-no : (w : Walk Pair) (p q k : ℕ) → Ok (Vx.No p q k) ≡ verdict_within allowance spent w
      → (j : ℕ) × (w ≡ hit (record { first = p; second = q }) j) × (k ≡ spent + j) × (leb (spent + j) allowance ≡ true)
  said-no (hit x j) p q k e = go (leb (spent + j) allowance) refl e
    where
      pair : ℕ → ℕ → Walk Pair
      pair a b = hit (record { first = a; second = b }) j

      go : (b : Bool) → leb (spent + j) allowance ≡ b → Ok (Vx.No p q k) ≡ cond b (Ok (Vx.No x.first x.second (spent + j))) (Err (Xx.Spent allowance))
          → (i : ℕ) × (◌≡◌ {A = Walk Pair} (hit x j) (hit (record { first = p; second = q }) i)) × (k ≡ spent + i) × (leb (spent + i) allowance ≡ true)
      go true f z =
          let a : x.first ≡ p = cc in
          let b : x.second ≡ q = cc in
          let c : k ≡ spent + j = cc in
          (j, ap₂ pair a b, c, f)
      go false f z = cc
  said-no (missed j) p q k e = absurd (go (leb (spent + j) allowance) e)
    where
      go : (b : Bool) → Ok (Vx.No p q k) ≡ cond b (Ok (Vx.Yes (spent + j))) (Err (Xx.Spent allowance)) → ⊥
      go true z = cc
      go false z = cc
  said-no (stuck j) p q k e = absurd (go (leb (spent + j) allowance) e)
    where
      go : (b : Bool) → Ok (Vx.No p q k) ≡ cond b (Err Xx.Unsplit) (Err (Xx.Spent allowance)) → ⊥
      go true z = cc
      go false z = cc

  module _ (n : ℕ) (s : ℕ → ℕ → Bool) where
    -- a round whose verdict is refused, and one at a yes
    pub round_refused : (q : ℕ) (w : Walk Pair) (next : Pair → Ended) (e : Refusal) → Err e ≡ verdict_within allowance spent w
        → Err e ≡ within allowance spent (on_round n s q w next)
    round_refused q w next = refused w (on_round n s q w next) (round_follows n s q w next)

    pub round_ends : (q : ℕ) (w : Walk Pair) (next : Pair → Ended) (k : ℕ) → Ok (Vx.Yes k) ≡ verdict_within allowance spent w
        → Ok (record { set = q; visits = k }) ≡ within allowance spent (on_round n s q w next)
    round_ends q w next k e =
        let y = said-yes w k e in
        rw (y.1, y.3) (ap (λ (m : ℕ). Ok (record { set = q; visits = m })) y.2)

    -- a plain verdict that is refused, and one that is no
    pub plain_refused : (w : Walk Pair) (rounds : Ended) (e : Refusal) → Err e ≡ verdict_within allowance spent w
        → Err e ≡ within allowance spent (on_plain n s w rounds)
    plain_refused w rounds = refused w (on_plain n s w rounds) (plain_follows n s w rounds)

    pub plain_ends : (w : Walk Pair) (rounds : Ended) (a b k : ℕ) → Ok (Vx.No a b k) ≡ verdict_within allowance spent w
        → Err (Xx.Divided a b k) ≡ within allowance spent (on_plain n s w rounds)
    plain_ends w rounds a b k e =
        let y = said-no w a b k e in
        rw (y.1, y.3) (ap (λ (m : ℕ). Err (Xx.Divided a b m)) y.2)
