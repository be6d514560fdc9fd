-- What is demanded of an intact question, stated of the reply that a caller reads and of any answer that fits the promise. Numbers 1 to 8 come
-- before the search; after them the rounds end with the intact nodes where all plain quorums intersect, and the plain verdict with two quorums
-- apart where they do not. The allowance, which serves all the verdicts, only decides whether that end is reached. The plain verdict
-- takes fewer than 2 ^ (n + 1) visits and the rounds, each with fewer nodes than the one before, fewer than twice as many.
use mathlib.Core.Path.{◌≡◌, sym, ap, ◌∙◌}
use mathlib.Core.Bool.{true, false}
use mathlib.Core.List.{List, [], ◌∷◌}
use mathlib.Core.Logic.{◌⊎◌, inl, inr}
use Prim.Native.Nat.{ℕ, suc, ◌+◌, ◌*◌, ◌^◌, ◌≤◌, ◌<◌}
use native.Mathlib.Nat.{pow-suc}
use native.Mathlib.Omega.{arith}
use Rattle.std.specs.Prelude.{Result, Ok, Err}
use lib.Pow.{pow_mono}
use Rattle.sets.specs.Sets.{nobody, everyone, size, within as lies_within}
use Rattle.sets.proofs.Bools.{clash}
use Rattle.sets.proofs.Size.{size-le}
use Rattle.meanings.specs.Table.{nodes, satisfied}
use Rattle.meanings.specs.Faults.{check}
use Rattle.meanings.specs.Quorums.{whole_ground, intersecting, disjoint_quorums, intact_nodes}
use Rattle.meanings.specs.Trees.{hit, missed}
use Rattle.meanings.specs.Intact.{ended_later}
use Rattle.meanings.specs.Replies.{Reply, reply, ◌is◌, Set, First, Second, Visits, value}
use Rattle.meanings.specs.Questions.{in_nodes, intact_reply, intact_says as search_says}
use Rattle.theory.proofs.Verdict.{Decided, all_meet, two_apart, decided}
use Rattle.theory.proofs.Intact.{search_step}
use Rattle.faults.proofs.Numbers.{OnlyNine, larger_says, after_check, after_nodes}
use Rattle.satisfaction.proofs.Monotone.{satisfied_monotone}
use Rattle.answers.specs.Said.{intact_says}
use Rattle.answers.specs.declared.Refusal.{Refusal}
use Rattle.answers.specs.declared.Refusal.TheVariants.{Divided, Spent, Unsplit}
use Rattle.answers.specs.declared.Intact.{Intact}
use Rattle.answers.proofs.Exact.{intact_exact}
use Rattle.intact.specs.Promise.{IntactPromise}
use Rattle.intact.proofs.Allowance.{visits_of}
use Rattle.intact.proofs.Meaning.{plain, says_plain, ending_of, all_visits, Asked, number_of, intact, apart, Outcome, answered, stopped, outcome, asked, number_0, number_11, rounds_end}

-- ---- how many visits an answer takes at most
-- 3 * 2 ^ (n + 1), for n nodes
abbrev pub bound : List ℕ → ℕ
bound t = 3 * 2 ^ suc (nodes t)

pub few_visits : (t : List ℕ) (ill : ℕ) → lies_within ill (everyone (nodes t)) ≡ true → suc (all_visits t ill) < bound t
few_visits t ill h = go (decided (nodes t) (satisfied t) nobody (satisfied_monotone t))
  where
    plainly : (k : ℕ) → suc k ≤ 2 ^ suc (size (nodes t) (whole_ground (nodes t) nobody)) → suc k ≤ 2 ^ suc (nodes t)
    plainly k l =
        let m = size-le (nodes t) (whole_ground (nodes t) nobody) in
        let x : suc (size (nodes t) (whole_ground (nodes t) nobody)) ≤ suc (nodes t) = omega arith in
        let w = pow_mono x in
        omega arith

    go : Decided (nodes t) (satisfied t) nobody (satisfied_monotone t) → suc (all_visits t ill) < bound t
    go (all_meet k e i few) =
        let r = rounds_end t ill h i in
        let a : all_visits t ill ≡ k + r.0 = ap visits_of (search_step (nodes t) (satisfied t) ill (missed k) e) ∙ ap (λ x. visits_of (ended_later k x)) r.1 in
        let b = plainly k few in
        let c = r.2 in
        let p : 2 ^ suc (suc (nodes t)) ≡ 2 ^ suc (nodes t) * 2 = pow-suc 2 (suc (nodes t)) in
        omega arith
    go (two_apart x k e z i few) =
        let a : all_visits t ill ≡ k = ap visits_of (search_step (nodes t) (satisfied t) ill (hit x k) e) in
        let b = plainly k few in
        omega arith

module _ (t : List ℕ) (ill : ℕ) where
  module _ (allowance : ℕ) where
    abbrev R : Reply
    R = intact_reply t ill allowance

    -- ---- of the reply
    -- An answer is exactly the nodes that some DSet around the ill set leaves out, of a system whose plain quorums all intersect.
    pub intact_exactly : R.number ≡ 0 → (value R Set ≡ intact_nodes (nodes t) (satisfied t) ill) × (intersecting (nodes t) (satisfied t) nobody ≡ true)
    intact_exactly e = let w = number_0 t ill allowance e in (ap (λ (x : Reply). value x Set) w.2, w.1)

    -- 11 hands over two plain quorums with no node in common.
    pub eleven_apart : R.number ≡ 11
        → (disjoint_quorums (nodes t) (satisfied t) nobody (value R First) (value R Second) ≡ true) × (intersecting (nodes t) (satisfied t) nobody ≡ false)
    eleven_apart e =
        let w = number_11 t ill allowance e in
        (ap (λ (x : Reply). disjoint_quorums (nodes t) (satisfied t) nobody (value x First) (value x Second)) w.5 ∙ w.3, w.4)

    -- The visits of either are those of all verdicts together, and within the allowance.
    pub visits_are : (R.number ≡ 0) ⊎ (R.number ≡ 11) → (value R Visits ≡ all_visits t ill) × (all_visits t ill ≤ allowance)
    visits_are (inl e) = let w = number_0 t ill allowance e in (ap (λ (x : Reply). value x Visits) w.2, w.0)
    visits_are (inr e) = let w = number_11 t ill allowance e in (ap (λ (x : Reply). value x Visits) w.5, w.2)

    -- It stops short exactly when the verdicts together take more visits than were allowed, and then reports the allowance.
    pub nine_only : R.number ≡ 9 → Asked t ill × (allowance < all_visits t ill) × (value R Visits ≡ allowance)
    nine_only e = let a = asked t ill allowance (λ (l : 1 ≤ R.number). omega arith) in go a (outcome t ill allowance a)
      where
        go : Asked t ill → Outcome t ill allowance R → Asked t ill × (allowance < all_visits t ill) × (value R Visits ≡ allowance)
        go a (stopped l f) = (a, l, ap (λ (x : Reply). value x Visits) f)
        go a (answered l (intact i f)) = let y : R.number ≡ 0 = ap number_of f in absurd (omega arith)
        go a (answered l (apart p q z i f)) = let y : R.number ≡ 11 = ap number_of f in absurd (omega arith)

    pub nine_whenever : Asked t ill → allowance < all_visits t ill → R.number ≡ 9
    nine_whenever a l = go (outcome t ill allowance a)
      where
        go : Outcome t ill allowance R → R.number ≡ 9
        go (stopped k f) = ap number_of f
        go (answered k m) = absurd (omega arith)

    pub answers_whenever : Asked t ill → all_visits t ill ≤ allowance
        → (intersecting (nodes t) (satisfied t) nobody ≡ true → R.number ≡ 0) × (intersecting (nodes t) (satisfied t) nobody ≡ false → R.number ≡ 11)
    answers_whenever a l = go (outcome t ill allowance a)
      where
        go : Outcome t ill allowance R
            → (intersecting (nodes t) (satisfied t) nobody ≡ true → R.number ≡ 0) × (intersecting (nodes t) (satisfied t) nobody ≡ false → R.number ≡ 11)
        go (stopped k f) = absurd (omega arith)
        go (answered k (intact i f)) = ((λ j. ap number_of f), (λ j. clash (intersecting (nodes t) (satisfied t) nobody) i j))
        go (answered k (apart p q z i f)) = ((λ j. clash (intersecting (nodes t) (satisfied t) nobody) j i), (λ j. ap number_of f))

    -- With no tree in it: an allowance of 3 * 2 ^ (n + 1) - 2 always answers, with 0 or 11.
    pub enough_answers : Asked t ill → bound t ≤ suc (suc allowance)
        → (intersecting (nodes t) (satisfied t) nobody ≡ true → R.number ≡ 0) × (intersecting (nodes t) (satisfied t) nobody ≡ false → R.number ≡ 11)
    enough_answers a l = let m = few_visits t ill a.among in answers_whenever a (omega arith)

    -- Number 13 never comes, whatever is asked.
    pub never_thirteen : ¬ (R.number ≡ 13)
    never_thirteen e = go (outcome t ill allowance (asked t ill allowance (λ (l : 1 ≤ R.number). omega arith)))
      where
        go : Outcome t ill allowance R → ⊥
        go (stopped l f) = let y : R.number ≡ 9 = ap number_of f in omega arith
        go (answered l (intact i f)) = let y : R.number ≡ 0 = ap number_of f in omega arith
        go (answered l (apart p q z i f)) = let y : R.number ≡ 11 = ap number_of f in omega arith

  -- A larger allowance never alters a set or a pair once given, nor any number but 9.
  pub larger_allowance : (a b : ℕ) → a ≤ b → ¬ ((intact_reply t ill a).number ≡ 9) → intact_reply t ill b ≡ intact_reply t ill a
  unfolding intact_reply
  larger_allowance a b l =
      let i = lies_within ill (everyone (nodes t)) in
      let e = ending_of t ill in
      after_check (check t) (in_nodes i (search_says a e)) (in_nodes i (search_says b e)) (after_nodes i (search_says a e) (search_says b e) later)
    where
      later : OnlyNine (search_says a (ending_of t ill)) (search_says b (ending_of t ill))
      later = rw (says_plain a (ending_of t ill), says_plain b (ending_of t ill)) (larger_says a b (all_visits t ill) (intact_says (plain (ending_of t ill))) l)

-- ---- of any answer that fits the promise
module _ (t : List ℕ) (ill allowance : ℕ) (r : Result Intact Refusal) (p : IntactPromise t ill allowance r) where
  -- with allowance enough: exactly the intact nodes where all plain quorums intersect, and two plain quorums apart elsewhere
  pub intact_fits : Asked t ill → all_visits t ill ≤ allowance → intersecting (nodes t) (satisfied t) nobody ≡ true
      → r ≡ Ok (record { set = intact_nodes (nodes t) (satisfied t) ill; visits = all_visits t ill })
  intact_fits a l i =
      let w = number_0 t ill allowance ((answers_whenever t ill allowance a l).0 i) in
      intact_exact r (Ok (record { set = intact_nodes (nodes t) (satisfied t) ill; visits = all_visits t ill })) (p.told ∙ w.2)

  pub divided_fits : Asked t ill → all_visits t ill ≤ allowance → intersecting (nodes t) (satisfied t) nobody ≡ false
      → (a b : ℕ) × (r ≡ Err (Divided a b (all_visits t ill))) × (disjoint_quorums (nodes t) (satisfied t) nobody a b ≡ true)
  divided_fits a l i =
      let w = number_11 t ill allowance ((answers_whenever t ill allowance a l).1 i) in
      (w.0, w.1, intact_exact r (Err (Divided w.0 w.1 (all_visits t ill))) (p.told ∙ w.5), w.3)

  pub spent_only : (k : ℕ) → r ≡ Err (Spent k) → Asked t ill × (allowance < all_visits t ill) × (k ≡ allowance)
  spent_only k e =
      let f : reply 9 (Visits is k ∷ []) ≡ intact_reply t ill allowance = sym (ap intact_says e) ∙ p.told in
      let w = nine_only t ill allowance (sym (ap number_of f)) in
      (w.0, w.1, ap (λ (x : Reply). value x Visits) f ∙ w.2)

  pub spent_whenever : Asked t ill → allowance < all_visits t ill → r ≡ Err (Spent allowance)
  spent_whenever a l = go (outcome t ill allowance a)
    where
      go : Outcome t ill allowance (intact_reply t ill allowance) → r ≡ Err (Spent allowance)
      go (stopped k f) = intact_exact r (Err (Spent allowance)) (p.told ∙ f)
      go (answered k m) = absurd (omega arith)

  pub never_unsplit : ¬ (r ≡ Err Unsplit)
  never_unsplit e = never_thirteen t ill allowance (sym (ap number_of p.told) ∙ ap (λ (v : Result Intact Refusal). (intact_says v).number) e)

pub larger_fits : (t : List ℕ) (ill a b : ℕ) (x y : Result Intact Refusal) → IntactPromise t ill a x → IntactPromise t ill b y → a ≤ b → ¬ ((intact_says x).number ≡ 9) → y ≡ x
larger_fits t ill a b x y p q l h =
    intact_exact y x (q.told ∙ larger_allowance t ill a b l (λ z. h (ap number_of p.told ∙ z)) ∙ sym p.told)
