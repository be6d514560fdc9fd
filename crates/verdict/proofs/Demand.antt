-- What is demanded of the quick search, stated of the reply that a caller reads and of any answer that fits the promise. Numbers 1 to 8 come
-- before the search, so any other number is for a sound table and a set of its nodes. There the tree's walk ends with yes where all quorums
-- of the rest intersect and with two of them apart where they do not, and the allowance only decides whether that end is reached.
use mathlib.Core.Path.{◌≡◌, refl, sym, ap, ◌∙◌, subst}
use mathlib.Core.Bool.{Bool, true, false}
use mathlib.Core.List.{List, [], ◌∷◌}
use mathlib.Core.Logic.{⊎_elim}
use Prim.Native.Nat.{ℕ, suc, ◌^◌, ◌≤◌, ◌<◌}
use native.Mathlib.Omega.{arith}
use Rattle.std.specs.Prelude.{Result, Ok, Err}
use Rattle.sets.specs.Sets.{everyone, size, within}
use Rattle.sets.proofs.Bools.{clash}
use Rattle.sets.proofs.Size.{le-or-lt}
use Rattle.meanings.specs.Table.{nodes, satisfied}
use Rattle.meanings.specs.Faults.{check}
use Rattle.meanings.specs.Quorums.{whole_ground, intersecting, disjoint_quorums}
use Rattle.meanings.specs.Trees.{Pair, Walk, hit, missed, stuck, verdict_tree, walk}
use Rattle.meanings.specs.Replies.{Reply, reply, ◌is◌, Answer, First, Second, Visits, value}
use Rattle.meanings.specs.Questions.{in_nodes, in_allowance, verdict_reply, verdict_says as search_says}
use Rattle.theory.proofs.Verdict.{Decided, all_meet, two_apart, decided, sound_disjoint}
use Rattle.faults.proofs.Numbers.{Further, Opened, opened, past_opening, in_allowance_lem, over_allowance, OnlyNine, larger_says, after_check, after_nodes}
use Rattle.satisfaction.proofs.Monotone.{satisfied_monotone}
use Rattle.answers.specs.Said.{verdict_says}
use Rattle.answers.specs.declared.Refusal.{Refusal}
use Rattle.answers.specs.declared.Refusal.TheVariants.{Spent, Unsplit}
use Rattle.answers.specs.declared.Verdict.{Verdict}
use Rattle.answers.specs.declared.Verdict.TheVariants.{Yes, No}
use Rattle.answers.proofs.Exact.{verdict_exact}
use Rattle.verdict.specs.Promise.{VerdictPromise}
use Rattle.verdict.proofs.Allowance.{count}
use Rattle.verdict.proofs.Meaning.{plain, visits_few}

-- the visits that the stated tree takes up to its answer
abbrev pub visits_of : List ℕ → ℕ → ℕ
visits_of t d = count (walk (verdict_tree (nodes t) (satisfied t) d))

-- 2 ^ (a + 1), where a nodes are not counted out
abbrev pub bound : List ℕ → ℕ → ℕ
bound t d = 2 ^ suc (size (nodes t) (whole_ground (nodes t) d))

-- a sound table, and a set of its nodes
abbrev pub Asked : List ℕ → ℕ → Type 0
Asked t d = Opened t (within d (everyone (nodes t)))

-- ---- what is replied to whoever asks so: an answer, with what it means, or number 9
data Meant (t : List ℕ) (d : ℕ) (r : Reply) : Type 0 where
  yes : intersecting (nodes t) (satisfied t) d ≡ true → r ≡ reply 0 (Answer is 1 ∷ Visits is visits_of t d ∷ []) → Meant t d r
  no : (p q : ℕ) → disjoint_quorums (nodes t) (satisfied t) d p q ≡ true → intersecting (nodes t) (satisfied t) d ≡ false
      → r ≡ reply 0 (Answer is 0 ∷ First is p ∷ Second is q ∷ Visits is visits_of t d ∷ []) → Meant t d r

data Outcome (t : List ℕ) (d allowance : ℕ) (r : Reply) : Type 0 where
  answered : visits_of t d ≤ allowance → Meant t d r → Outcome t d allowance r
  stopped : allowance < visits_of t d → r ≡ reply 9 (Visits is allowance ∷ []) → Outcome t d allowance r

abbrev number_of : Reply → ℕ
number_of r = r.number

answer_number : (t : List ℕ) (d : ℕ) (r : Reply) → Meant t d r → r.number ≡ 0
answer_number t d r (yes i e) = ap number_of e
answer_number t d r (no p q z i e) = ap number_of e

-- the answer without an allowance, and what an allowance makes of it
says_plain : (allowance : ℕ) (w : Walk Pair) → search_says allowance w ≡ in_allowance allowance (count w) (verdict_says (plain w))
says_plain allowance (missed k) = refl
says_plain allowance (hit p k) = refl
says_plain allowance (stuck k) = refl

module _ (t : List ℕ) (d : ℕ) where
  abbrev n : ℕ
  n = nodes t

  abbrev s : ℕ → ℕ → Bool
  s = satisfied t

  abbrev walked : Walk Pair
  walked = walk (verdict_tree n s d)

  meant : Meant t d (verdict_says (plain walked))
  meant = go (decided n s d (satisfied_monotone t))
    where
      -- the walk's end, with the visits by their name
      said : (w : ℕ → Walk Pair) (k : ℕ) → ((j : ℕ) → count (w j) ≡ j) → walked ≡ w k → verdict_says (plain walked) ≡ verdict_says (plain (w (visits_of t d)))
      said w k f e = ap (λ (x : Walk Pair). verdict_says (plain x)) (e ∙ ap w (sym (ap count e ∙ f k)))

      go : Decided n s d (satisfied_monotone t) → Meant t d (verdict_says (plain walked))
      go (all_meet k e i few) = yes i (said missed k (λ j. refl) e)
      go (two_apart x k e z i few) = no x.first x.second (sound_disjoint n s d (satisfied_monotone t) x z) i (said (hit x) k (λ j. refl) e)

  module _ (allowance : ℕ) where
    abbrev R : Reply
    R = verdict_reply t d allowance

    outcome : Asked t d → Outcome t d allowance R
    unfolding verdict_reply
    outcome a =
        let x = verdict_says (plain walked) in
        let e = past_opening t (within d (everyone n)) (search_says allowance walked) a ∙ says_plain allowance walked in
        ⊎_elim
        (λ l. answered l (subst (Meant t d) (sym (e ∙ in_allowance_lem allowance (visits_of t d) x l)) meant))
        (λ l. stopped l (e ∙ over_allowance allowance (visits_of t d) x l))
        (le-or-lt (visits_of t d) allowance)

    asked : Further R.number → Asked t d
    unfolding verdict_reply
    asked = opened t (within d (everyone n)) (search_says allowance walked)

    number_0 : R.number ≡ 0 → (visits_of t d ≤ allowance) × Meant t d R
    number_0 e = go (outcome (asked (λ (l : 1 ≤ R.number). omega arith)))
      where
        go : Outcome t d allowance R → (visits_of t d ≤ allowance) × Meant t d R
        go (answered l m) = (l, m)
        go (stopped l f) = let z : R.number ≡ 9 = ap number_of f in absurd (omega arith)

    -- ---- of the reply
    -- Where it answers, it says yes exactly when every two quorums of the rest share a node.
    pub yes_exactly : R.number ≡ 0 → (value R Answer ≡ 1 → intersecting n s d ≡ true) × (intersecting n s d ≡ true → value R Answer ≡ 1)
    yes_exactly e = go (number_0 e).1
      where
        go : Meant t d R → (value R Answer ≡ 1 → intersecting n s d ≡ true) × (intersecting n s d ≡ true → value R Answer ≡ 1)
        go (yes i f) = ((λ z. i), (λ z. ap (λ (x : Reply). value x Answer) f))
        go (no p q y i f) =
            let a : value R Answer ≡ 0 = ap (λ (x : Reply). value x Answer) f in
            ((λ z. absurd (omega arith)), (λ z. clash (intersecting n s d) z i))

    -- Otherwise it hands over two quorums of the rest with no node in common.
    pub otherwise_apart : R.number ≡ 0 → ¬ (value R Answer ≡ 1)
        → (value R Answer ≡ 0) × (disjoint_quorums n s d (value R First) (value R Second) ≡ true) × (intersecting n s d ≡ false)
    otherwise_apart e h = go (number_0 e).1
      where
        go : Meant t d R → (value R Answer ≡ 0) × (disjoint_quorums n s d (value R First) (value R Second) ≡ true) × (intersecting n s d ≡ false)
        go (yes i f) = absurd (h (ap (λ (x : Reply). value x Answer) f))
        go (no p q z i f) = (
          ap (λ (x : Reply). value x Answer) f,
          ap (λ (x : Reply). disjoint_quorums n s d (value x First) (value x Second)) f ∙ z,
          i,
        )

    -- The visits of an answer are the stated tree's, and within the allowance.
    pub visits_are : R.number ≡ 0 → (value R Visits ≡ visits_of t d) × (visits_of t d ≤ allowance)
    visits_are e = let w = number_0 e in (go w.1, w.0)
      where
        go : Meant t d R → value R Visits ≡ visits_of t d
        go (yes i f) = ap (λ (x : Reply). value x Visits) f
        go (no p q z i f) = ap (λ (x : Reply). value x Visits) f

    -- It stops short exactly when the stated tree takes more visits than were allowed, and then reports the allowance.
    pub nine_only : R.number ≡ 9 → Asked t d × (allowance < visits_of t d) × (value R Visits ≡ allowance)
    nine_only e = let a = asked (λ (l : 1 ≤ R.number). omega arith) in go a (outcome a)
      where
        go : Asked t d → Outcome t d allowance R → Asked t d × (allowance < visits_of t d) × (value R Visits ≡ allowance)
        go a (stopped l f) = (a, l, ap (λ (x : Reply). value x Visits) f)
        go a (answered l m) = let z = answer_number t d R m in absurd (omega arith)

    pub nine_whenever : Asked t d → allowance < visits_of t d → R.number ≡ 9
    nine_whenever a l = go (outcome a)
      where
        go : Outcome t d allowance R → R.number ≡ 9
        go (stopped k f) = ap number_of f
        go (answered k m) = absurd (omega arith)

    pub answers_whenever : Asked t d → visits_of t d ≤ allowance → R.number ≡ 0
    answers_whenever a l = go (outcome a)
      where
        go : Outcome t d allowance R → R.number ≡ 0
        go (stopped k f) = absurd (omega arith)
        go (answered k m) = answer_number t d R m

    -- With no tree in it: an allowance of 2 ^ (a + 1) - 1 always answers, and no answer takes more visits.
    pub enough_answers : Asked t d → bound t d ≤ suc allowance → R.number ≡ 0
    enough_answers a l = let m = visits_few t d in answers_whenever a (omega arith)

    pub few_visits : R.number ≡ 0 → suc (value R Visits) ≤ bound t d
    few_visits e = let m = visits_few t d in let v = (visits_are e).0 in omega arith

    -- Number 13 never comes, whatever is asked.
    pub never_thirteen : ¬ (R.number ≡ 13)
    never_thirteen e = go (outcome (asked (λ (l : 1 ≤ R.number). omega arith)))
      where
        go : Outcome t d allowance R → ⊥
        go (stopped l f) = let z : R.number ≡ 9 = ap number_of f in omega arith
        go (answered l m) = let z = answer_number t d R m in omega arith

  -- A larger allowance never alters a yes or a pair once given, nor any number but 9.
  pub larger_allowance : (a b : ℕ) → a ≤ b → ¬ ((verdict_reply t d a).number ≡ 9) → verdict_reply t d b ≡ verdict_reply t d a
  unfolding verdict_reply
  larger_allowance a b l =
      let i = within d (everyone n) in
      after_check (check t) (in_nodes i (search_says a walked)) (in_nodes i (search_says b walked))
      (after_nodes i (search_says a walked) (search_says b walked) later)
    where
      later : OnlyNine (search_says a walked) (search_says b walked)
      later = rw (says_plain a walked, says_plain b walked) (larger_says a b (visits_of t d) (verdict_says (plain walked)) l)

  pub answer_stays : (a b : ℕ) → a ≤ b → (verdict_reply t d a).number ≡ 0 → verdict_reply t d b ≡ verdict_reply t d a
  answer_stays a b l e = larger_allowance a b l (λ z. omega arith)

-- ---- of any answer that fits the promise; it says number 0 where it is a verdict
module _ (t : List ℕ) (d allowance : ℕ) (r : Result Verdict Refusal) (p : VerdictPromise t d allowance r) where
  same_number : (verdict_says r).number ≡ (verdict_reply t d allowance).number
  same_number = ap number_of p.told

  pub yes_fits : (verdict_says r).number ≡ 0
      → ((k : ℕ) → r ≡ Ok (Yes k) → intersecting (nodes t) (satisfied t) d ≡ true) × (intersecting (nodes t) (satisfied t) d ≡ true → r ≡ Ok (Yes (visits_of t d)))
  yes_fits e = (p.yes_means, λ i. go i (number_0 t d allowance (sym same_number ∙ e)).1)
    where
      go : intersecting (nodes t) (satisfied t) d ≡ true → Meant t d (verdict_reply t d allowance) → r ≡ Ok (Yes (visits_of t d))
      go i (yes j f) = verdict_exact r (Ok (Yes (visits_of t d))) (p.told ∙ f)
      go i (no a b z j f) = clash (intersecting (nodes t) (satisfied t) d) i j

  pub no_fits : (verdict_says r).number ≡ 0 → intersecting (nodes t) (satisfied t) d ≡ false
      → (a b : ℕ) × (r ≡ Ok (No a b (visits_of t d))) × (disjoint_quorums (nodes t) (satisfied t) d a b ≡ true)
  no_fits e i = go (number_0 t d allowance (sym same_number ∙ e)).1
    where
      go : Meant t d (verdict_reply t d allowance) → (a b : ℕ) × (r ≡ Ok (No a b (visits_of t d))) × (disjoint_quorums (nodes t) (satisfied t) d a b ≡ true)
      go (yes j f) = clash (intersecting (nodes t) (satisfied t) d) j i
      go (no a b z j f) = (a, b, verdict_exact r (Ok (No a b (visits_of t d))) (p.told ∙ f), z)

  pub spent_only : (k : ℕ) → r ≡ Err (Spent k) → Asked t d × (allowance < visits_of t d) × (k ≡ allowance)
  spent_only k e =
      let f : reply 9 (Visits is k ∷ []) ≡ verdict_reply t d allowance = sym (ap verdict_says e) ∙ p.told in
      let w = nine_only t d allowance (sym (ap number_of f)) in
      (w.0, w.1, ap (λ (x : Reply). value x Visits) f ∙ w.2)

  pub spent_whenever : Asked t d → allowance < visits_of t d → r ≡ Err (Spent allowance)
  spent_whenever a l = go (outcome t d allowance a)
    where
      go : Outcome t d allowance (verdict_reply t d allowance) → r ≡ Err (Spent allowance)
      go (stopped k f) = verdict_exact r (Err (Spent allowance)) (p.told ∙ f)
      go (answered k m) = absurd (omega arith)

  pub enough_fits : Asked t d → bound t d ≤ suc allowance → (verdict_says r).number ≡ 0
  enough_fits a l = same_number ∙ enough_answers t d allowance a l

  pub never_unsplit : ¬ (r ≡ Err Unsplit)
  never_unsplit e = never_thirteen t d allowance (sym same_number ∙ ap (λ (v : Result Verdict Refusal). (verdict_says v).number) e)

pub larger_fits : (t : List ℕ) (d a b : ℕ) (x y : Result Verdict Refusal) → VerdictPromise t d a x → VerdictPromise t d b y → a ≤ b → ¬ ((verdict_says x).number ≡ 9) → y ≡ x
larger_fits t d a b x y p q l h =
    verdict_exact y x (q.told ∙ larger_allowance t d a b l (λ z. h (ap number_of p.told ∙ z)) ∙ sym p.told)
