-- What an answer means. The table's satisfaction is monotone, so the theory of the rounds speaks of it: where all plain quorums intersect
-- the search ends with the nodes that some DSet around the ill set leaves out, and elsewhere with two plain quorums apart. An allowance
-- only decides whether that end is reached: it is given exactly when the sum of the visits is within the allowance.
use mathlib.Core.Path.{◌≡◌, refl, sym, ap, ◌∙◌, subst}
use mathlib.Core.Bool.{Bool, true, false}
use mathlib.Core.List.{List, [], ◌∷◌}
use mathlib.Core.Logic.{⊎_elim}
use Prim.Native.Nat.{ℕ, suc, ◌+◌, ◌^◌, ◌≤◌, ◌<◌}
use native.Mathlib.Nat.{zero-add}
use native.Mathlib.Omega.{arith}
use Rattle.std.specs.Prelude.{Result, Ok, Err}
use borrow.Author.Tests.{le-leb, lt-leb}
use lib.Pow.{pow_mono}
use Rattle.sets.specs.Sets.{nobody, everyone, ◌∖◌, size, within as lies_within}
use Rattle.sets.proofs.Bools.{either}
use Rattle.sets.proofs.Members.{everyone-lt, within-lt}
use Rattle.sets.proofs.Size.{le-or-lt, size-le}
use Rattle.meanings.specs.Table.{nodes, satisfied}
use Rattle.meanings.specs.Quorums.{intersecting, disjoint_quorums, intact_nodes}
use Rattle.meanings.specs.Intact.{Ended, intact_are, divided, stuck_after, intact_search}
use Rattle.meanings.specs.Replies.{Reply, reply, ◌is◌, Set, First, Second, Visits, value}
use Rattle.meanings.specs.Questions.{in_allowance, intact_reply, intact_says as reply_says}
use Rattle.theory.proofs.Verdict.{sound_disjoint}
use Rattle.theory.proofs.Intact.{start, rounds_answer, intact_answer, intact_divided}
use Rattle.faults.proofs.Numbers.{Further, Opened, opened, past_opening, in_allowance_lem, over_allowance}
use Rattle.satisfaction.proofs.Monotone.{satisfied_monotone}
use Rattle.answers.specs.Said.{intact_says}
use Rattle.answers.specs.declared.Refusal.{Refusal}
use Rattle.answers.specs.declared.Refusal.TheVariants.{Divided, Spent, Unsplit}
use Rattle.answers.specs.declared.Intact.{Intact}
use Rattle.answers.proofs.Exact.{intact_exact}
use Rattle.intact.specs.Rounds.{within, rounds_of}
use Rattle.intact.specs.Promise.{IntactPromise}
use Rattle.intact.proofs.Allowance.{visits_of}

-- ---- an end, and what an allowance makes of it

-- the answer without an allowance
abbrev pub plain : Ended → Result Intact Refusal
plain (intact_are q k) = Ok (record { set = q; visits = k })
plain (divided p k) = Err (Divided p.first p.second k)
plain (stuck_after k) = Err Unsplit

pub in_time_lem : (allowance : ℕ) (e : Ended) → visits_of e ≤ allowance → within allowance 0 e ≡ plain e
in_time_lem allowance (intact_are q k) l = rw (zero-add k, le-leb k allowance l)
in_time_lem allowance (divided p k) l = rw (zero-add k, le-leb k allowance l)
in_time_lem allowance (stuck_after k) l = rw (zero-add k, le-leb k allowance l)

pub too_late : (allowance : ℕ) (e : Ended) → allowance < visits_of e → within allowance 0 e ≡ Err (Spent allowance)
too_late allowance (intact_are q k) l = rw (zero-add k, lt-leb k allowance l)
too_late allowance (divided p k) l = rw (zero-add k, lt-leb k allowance l)
too_late allowance (stuck_after k) l = rw (zero-add k, lt-leb k allowance l)

-- the answer says what the reply says
pub says_within : (allowance : ℕ) (e : Ended) → intact_says (within allowance 0 e) ≡ reply_says allowance e
says_within allowance e =
    ⊎_elim (λ l. ap intact_says (in_time_lem allowance e l) ∙ early e l) (λ l. ap intact_says (too_late allowance e l) ∙ late e l) (le-or-lt (visits_of e) allowance)
  where
    early : (e : Ended) → visits_of e ≤ allowance → intact_says (plain e) ≡ reply_says allowance e
    early (intact_are q k) m = rw (le-leb k allowance m)
    early (divided p k) m = rw (le-leb k allowance m)
    early (stuck_after k) m = rw (le-leb k allowance m)

    late : (e : Ended) → allowance < visits_of e → intact_says (Err (Spent allowance)) ≡ reply_says allowance e
    late (intact_are q k) m = rw (lt-leb k allowance m)
    late (divided p k) m = rw (lt-leb k allowance m)
    late (stuck_after k) m = rw (lt-leb k allowance m)

-- the reply is the answer without an allowance, where that comes within the allowance
pub says_plain : (allowance : ℕ) (e : Ended) → reply_says allowance e ≡ in_allowance allowance (visits_of e) (intact_says (plain e))
says_plain allowance (intact_are q k) = refl
says_plain allowance (divided p k) = refl
says_plain allowance (stuck_after k) = refl

-- the end of the search, whatever the allowance, and the visits of all its verdicts up to there
abbrev pub ending_of : List ℕ → ℕ → Ended
ending_of t ill = intact_search (nodes t) (satisfied t) ill

abbrev pub all_visits : List ℕ → ℕ → ℕ
all_visits t ill = visits_of (ending_of t ill)

-- a sound table, and an ill set of its nodes
abbrev pub Asked : List ℕ → ℕ → Type 0
Asked t ill = Opened t (lies_within ill (everyone (nodes t)))

abbrev pub number_of : Reply → ℕ
number_of r = r.number

-- ---- what is replied to whoever asks so: an answer, with what it means, or number 9
pub data Meant (t : List ℕ) (ill : ℕ) (r : Reply) : Type 0 where
  intact : intersecting (nodes t) (satisfied t) nobody ≡ true → r ≡ reply 0 (Set is intact_nodes (nodes t) (satisfied t) ill ∷ Visits is all_visits t ill ∷ []) → Meant t ill r
  apart : (p q : ℕ) → disjoint_quorums (nodes t) (satisfied t) nobody p q ≡ true → intersecting (nodes t) (satisfied t) nobody ≡ false
      → r ≡ reply 11 (First is p ∷ Second is q ∷ Visits is all_visits t ill ∷ []) → Meant t ill r

pub data Outcome (t : List ℕ) (ill allowance : ℕ) (r : Reply) : Type 0 where
  answered : all_visits t ill ≤ allowance → Meant t ill r → Outcome t ill allowance r
  stopped : allowance < all_visits t ill → r ≡ reply 9 (Visits is allowance ∷ []) → Outcome t ill allowance r

module _ (t : List ℕ) (ill : ℕ) where
  abbrev n : ℕ
  n = nodes t

  abbrev s : ℕ → ℕ → Bool
  s = satisfied t

  abbrev ending : Ended
  ending = ending_of t ill

  -- the search ends with the intact nodes where all plain quorums intersect, and with two of them apart elsewhere
  meant : lies_within ill (everyone n) ≡ true → Meant t ill (intact_says (plain ending))
  meant h = ⊎_elim all_meet two_apart (either (intersecting n s nobody))
    where
      -- the end, with the visits by their name
      said : (x : ℕ → Ended) (k : ℕ) → ((j : ℕ) → visits_of (x j) ≡ j) → ending ≡ x k → intact_says (plain ending) ≡ intact_says (plain (x (all_visits t ill)))
      said x k f e = ap (λ (y : Ended). intact_says (plain y)) (e ∙ ap x (sym (ap visits_of e ∙ f k)))

      all_meet : intersecting n s nobody ≡ true → Meant t ill (intact_says (plain ending))
      all_meet i =
          let w = intact_answer n s (satisfied_monotone t) ill (within-lt n ill (everyone n) (everyone-lt n) h) i in
          intact i (said (intact_are (intact_nodes n s ill)) w.0 (λ j. refl) w.1)

      two_apart : intersecting n s nobody ≡ false → Meant t ill (intact_says (plain ending))
      two_apart i =
          let w = intact_divided n s (satisfied_monotone t) ill i in
          apart w.0.first w.0.second (sound_disjoint n s nobody (satisfied_monotone t) w.0 w.2) i (said (divided w.0) w.1 (λ j. refl) w.3)

  module _ (allowance : ℕ) where
    pub outcome : Asked t ill → Outcome t ill allowance (intact_reply t ill allowance)
    unfolding intact_reply
    outcome a =
        let x = intact_says (plain ending) in
        let e = past_opening t (lies_within ill (everyone n)) (reply_says allowance ending) a ∙ says_plain allowance ending in
        ⊎_elim
        (λ l. answered l (subst (Meant t ill) (sym (e ∙ in_allowance_lem allowance (all_visits t ill) x l)) (meant a.among)))
        (λ l. stopped l (e ∙ over_allowance allowance (all_visits t ill) x l))
        (le-or-lt (all_visits t ill) allowance)

    pub asked : Further (intact_reply t ill allowance).number → Asked t ill
    unfolding intact_reply
    asked = opened t (lies_within ill (everyone n)) (reply_says allowance ending)

    -- the reply in full, by its number
    abbrev R : Reply
    R = intact_reply t ill allowance

    pub number_0 : R.number ≡ 0
        → (all_visits t ill ≤ allowance) × (intersecting n s nobody ≡ true) × (R ≡ reply 0 (Set is intact_nodes n s ill ∷ Visits is all_visits t ill ∷ []))
    number_0 e = go (outcome (asked (λ (l : 1 ≤ R.number). omega arith)))
      where
        go : Outcome t ill allowance R
            → (all_visits t ill ≤ allowance) × (intersecting n s nobody ≡ true) × (R ≡ reply 0 (Set is intact_nodes n s ill ∷ Visits is all_visits t ill ∷ []))
        go (answered l (intact i f)) = (l, i, f)
        go (answered l (apart p q z i f)) = let y : R.number ≡ 11 = ap number_of f in absurd (omega arith)
        go (stopped l f) = let y : R.number ≡ 9 = ap number_of f in absurd (omega arith)

    pub number_11 : R.number ≡ 11
        → (p q : ℕ) × (all_visits t ill ≤ allowance) × (disjoint_quorums n s nobody p q ≡ true) × (intersecting n s nobody ≡ false)
        × (R ≡ reply 11 (First is p ∷ Second is q ∷ Visits is all_visits t ill ∷ []))
    number_11 e = go (outcome (asked (λ (l : 1 ≤ R.number). omega arith)))
      where
        go : Outcome t ill allowance R
            → (p q : ℕ) × (all_visits t ill ≤ allowance) × (disjoint_quorums n s nobody p q ≡ true) × (intersecting n s nobody ≡ false)
            × (R ≡ reply 11 (First is p ∷ Second is q ∷ Visits is all_visits t ill ∷ []))
        go (answered l (intact i f)) = let y : R.number ≡ 0 = ap number_of f in absurd (omega arith)
        go (answered l (apart p q z i f)) = (p, q, l, z, i, f)
        go (stopped l f) = let y : R.number ≡ 9 = ap number_of f in absurd (omega arith)

    -- what is told carries its meaning
    pub promised : (r : Result Intact Refusal) → intact_says r ≡ R → IntactPromise t ill allowance r
    promised r e =
        record {
          told = e;
          means = λ q k f.
              let z : reply 0 (Set is q ∷ Visits is k ∷ []) ≡ R = sym (ap intact_says f) ∙ e in
              let w = number_0 (sym (ap number_of z)) in
              (ap (λ (x : Reply). value x Set) (z ∙ w.2), w.1);
          divided_means = λ p q k f.
              let z : reply 11 (First is p ∷ Second is q ∷ Visits is k ∷ []) ≡ R = sym (ap intact_says f) ∙ e in
              let w = number_11 (sym (ap number_of z)) in
              let y = z ∙ w.5 in
              (subst (λ (x : Reply). disjoint_quorums n s nobody (value x First) (value x Second) ≡ true) (sym y) w.3, w.4);
        }

-- ---- the rounds by themselves: where all plain quorums intersect, from all nodes outside the ill set they end with the intact nodes,
-- after fewer than 2 ^ (n + 2) visits
module _ (t : List ℕ) (ill : ℕ) (h : lies_within ill (everyone (nodes t)) ≡ true) (i : intersecting (nodes t) (satisfied t) nobody ≡ true) where
  pub rounds_end : (k : ℕ) × (rounds_of t (everyone (nodes t) ∖ ill) ≡ intact_are (intact_nodes (nodes t) (satisfied t) ill) k) × (suc k ≤ 2 ^ suc (suc (nodes t)))
  rounds_end =
      let n = nodes t in
      let s = satisfied t in
      let m = satisfied_monotone t in
      let u = everyone n ∖ ill in
      let hb = within-lt n ill (everyone n) (everyone-lt n) h in
      let l = size-le n u in
      let w = rounds_answer n s m i ill hb (suc n) u (start n s m i ill hb) (omega arith) in
      let p : 2 ^ suc (suc (size n u)) ≤ 2 ^ suc (suc n) = let x : suc (suc (size n u)) ≤ suc (suc n) = omega arith in pow_mono x in
      let b = w.2 in
      (w.0, w.1, omega arith)

  pub rounds_say : (allowance spent : ℕ) → spent + rounds_end.0 ≤ allowance
      → within allowance spent (rounds_of t (everyone (nodes t) ∖ ill)) ≡ Ok (record { set = intact_nodes (nodes t) (satisfied t) ill; visits = spent + rounds_end.0 })
  rounds_say allowance spent l = ap (within allowance spent) rounds_end.1 ∙ in_turn_lem
    where
      in_turn_lem : within allowance spent (intact_are (intact_nodes (nodes t) (satisfied t) ill) rounds_end.0) ≡ Ok (record { set = intact_nodes (nodes t) (satisfied t) ill; visits = spent + rounds_end.0 })
      in_turn_lem = rw (le-leb (spent + rounds_end.0) allowance l)

-- Two answers that both fit the promise are equal.
pub intact_unique : (t : List ℕ) (ill allowance : ℕ) (x y : Result Intact Refusal) → IntactPromise t ill allowance x → IntactPromise t ill allowance y → x ≡ y
intact_unique t ill allowance x y p q = intact_exact x y (p.told ∙ sym q.told)
