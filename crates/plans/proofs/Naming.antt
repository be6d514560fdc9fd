-- A quorum set names all whom judging it looks at: of the records up to its end, the members in a set and the inner sets that it
-- satisfies are no fewer in one that has lost nobody named.
use mathlib.Core.Path.{◌≡◌, refl, sym, ap, ◌∙◌, subst}
use mathlib.Core.Bool.{Bool, true}
use mathlib.Core.Logic.{⊎_elim}
use mathlib.Core.List.{List, ◌++◌}
use Prim.Native.Nat.{ℕ, zero, suc, ◌+◌, ◌-◌, ◌*◌, ◌<◌, ◌≤◌}
use native.Mathlib.Numerals.{sub-one}
use native.Mathlib.Omega.{arith}
use borrow.Author.Tests.{eqb-true, eqb-false}
use lib.Dec.{eqb}
use lib.ListN.{length, get_or, set, get_or-append, length-append}
use lib.Seq.{get_or-append-add, get_or-set_same, get_or-set_other}
use Rattle.sets.specs.Sets.{size, nobody, ◌∪◌, ◌∩◌}
use Rattle.sets.proofs.Bools.{either}
use Rattle.sets.proofs.Members.{In, Sub, ∪-left, ∪_right, ∪_cases, ∩_in, ∩_out, none_in}
use Rattle.sets.proofs.Size.{le-or-lt, sub-size}
use Rattle.meanings.specs.Table.{records, members, level, head_of, satisfies}
use Rattle.meanings.specs.Faults.{check, sound}
use Rattle.tables.proofs.Runs.{inner_from, from_stop, from_hit, from_miss, from_deeper}
use Rattle.satisfaction.proofs.Suffice.{suffice_more}
use Rattle.satisfaction.proofs.Laws.{judged_last, judged_more}
use Rattle.plans.specs.Alike.{set_end, set_of}
use Rattle.plans.proofs.Written.{Over, Bounds, set_records, set_members}
use Rattle.plans.proofs.SameSets.{from_last}
use Rattle.plans.specs.Named.{Names, Gathered, names_at, NamedTo}

-- ---- walks with two tests
module _ (t : List ℕ) (k : ℕ) where
  -- a record inside the run takes nothing from the count
  from_less : (f : ℕ → Bool) (x : ℕ) → x < records t → k < level t x → inner_from f t k (x + 1) ≤ inner_from f t k x
  from_less f x l h =
      ⊎_elim
      (λ (p : f x ≡ true).
      ⊎_elim (λ d. let a = from_hit f t k x l h (eqb-true (level t x) (suc k) d) p in omega arith)
      (λ d. let a = from_deeper f t k x l h (eqb-false (level t x) (suc k) d) in omega arith)
      (either (eqb (level t x) (suc k))))
      (λ p. let a = from_miss f t k x l h p in omega arith)
      (either (f x))

  -- a weaker test counts no fewer, from a record on where it does from the next
  module _ (f g : ℕ → Bool) (x : ℕ) (l : x < records t) (w : f x ≡ true → g x ≡ true) (ih : inner_from f t k (x + 1) ≤ inner_from g t k (x + 1)) where
    deep_more : k < level t x → inner_from f t k x ≤ inner_from g t k x
    deep_more h =
        ⊎_elim
        (λ (p : f x ≡ true).
        ⊎_elim
        (λ d.
        let z = eqb-true (level t x) (suc k) d in
        let a = from_hit f t k x l h z p in
        let b = from_hit g t k x l h z (w p) in
        omega arith)
        (λ d.
        let z = eqb-false (level t x) (suc k) d in
        let a = from_deeper f t k x l h z in
        let b = from_deeper g t k x l h z in
        omega arith)
        (either (eqb (level t x) (suc k))))
        (λ p.
        let a = from_miss f t k x l h p in
        let b = from_less g x l h in
        omega arith)
        (either (f x))

    step_more : inner_from f t k x ≤ inner_from g t k x
    step_more = ⊎_elim (λ h. let a = from_stop f t k x h in omega arith) deep_more (le-or-lt (level t x) k)

-- ---- the records of a set

-- the set of record r ends at e, and m has all its members
record Whole (t : List ℕ) (m r e : ℕ) : Type 0 where
  begins : r < e
  fits : e ≤ records t
  over : Over t e
  gathered : (j : ℕ) → r ≤ j → j < e → Sub (members t j) m

module _ (t : List ℕ) (m r e : ℕ) (W : Whole t m r e) where
  walk_more : (f g : ℕ → Bool) (k : ℕ) → ((j : ℕ) → r ≤ j → j < e → f j ≡ true → g j ≡ true) → (n i : ℕ) → n + i ≡ e → r ≤ i → inner_from f t k i ≤ inner_from g t k i
  walk_more f g k w zero i q h =
      let d : e ≡ i = omega arith in
      let a = from_last f t k i (subst (Over t) d W.over) in
      omega arith
  walk_more f g k w (suc n) i q h = more (walk_more f g k w n (i + 1) (omega arith) (omega arith))
    where
      more : inner_from f t k (i + 1) ≤ inner_from g t k (i + 1) → inner_from f t k i ≤ inner_from g t k i
      more ih = let c = W.fits in step_more t k f g i (omega arith) (w i h (omega arith)) ih

  module _ (sd : check t ≡ sound) (u u' : ℕ) (kept : (j : ℕ) → In u j → In m j → In u' j) where
    met_more : (j : ℕ) → r ≤ j → j < e → size 64 (members t j ∩ u) ≤ size 64 (members t j ∩ u')
    met_more j h l =
        sub-size 64 (members t j ∩ u) (members t j ∩ u')
        (λ i p. let q = ∩_out (members t j) u i p in ∩_in (members t j) u' i q.0 (kept i q.1 (W.gathered j h l i q.0)))

    -- whoever satisfies a record of the set still does without those not named
    stays : (left j : ℕ) → r ≤ j → j < e → satisfies left t u j ≡ true → satisfies left t u' j ≡ true
    stays zero j h l p =
        judged_last t u' j ∙ suffice_more t j (size 64 (members t j ∩ u)) (size 64 (members t j ∩ u')) (met_more j h l) (sym (judged_last t u j) ∙ p)
    stays (suc left) j h l p = more (λ i. stays left i)
      where
        more : ((i : ℕ) → r ≤ i → i < e → satisfies left t u i ≡ true → satisfies left t u' i ≡ true) → satisfies (suc left) t u' j ≡ true
        more ih =
            let c = W.fits in
            let n : suc left - 1 ≡ left = sub-one (suc left) in
            let f : ℕ → Bool = λ i. satisfies (suc left - 1) t u i in
            let g : ℕ → Bool = λ i. satisfies (suc left - 1) t u' i in
            let a = met_more j h l in
            let w = walk_more f g (level t j) (λ i h' l'. rw n (ih i h' l')) (e - (j + 1)) (j + 1) (omega arith) (omega arith) in
            judged_more (suc left) t u' j sd (omega arith) (omega arith)
            ∙ suffice_more t j (size 64 (members t j ∩ u) + inner_from f t (level t j) (j + 1))
            (size 64 (members t j ∩ u') + inner_from g t (level t j) (j + 1))
            (omega arith)
            (sym (judged_more (suc left) t u j sd (omega arith) (omega arith)) ∙ p)

  whole_names : check t ≡ sound → Names t m r
  whole_names sd u u' kept = let b = W.begins in stays sd u u' kept 3 r (omega arith) b

-- what gathers the members of the records that are written of it names all
pub set_names : (t : List ℕ) (v m : ℕ) → Bounds t v → Gathered (set_of t v) m → check t ≡ sound → Names t m (head_of t v)
set_names t v m b g sd =
    let n = set_records t v b in
    whole_names t m (head_of t v) (set_end t v)
    (record {
      begins = b.begins;
      fits = b.fits;
      over = b.over;
      gathered = λ j h l i p.
          let k : j - head_of t v < records (set_of t v) = omega arith in
          let d : head_of t v + (j - head_of t v) ≡ j = omega arith in
          g (j - head_of t v) k i (subst (λ (x : ℕ). In x i) (sym (set_members t v b (j - head_of t v) k ∙ ap (members t) d)) p);
    })
    sd

-- ---- gathering, a record at a time

-- whatever gathers the rest makes up for what m has not gathered of s yet
abbrev pub Gathering : List ℕ → ℕ → List ℕ → Type 0
Gathering s m rest = (k : ℕ) → Gathered rest k → Gathered s (m ∪ k)

-- of no record nothing is to be gathered
none_left : (s : List ℕ) (m : ℕ) → length s < 2 → Gathered s m
unfolding records
none_left s m h r l i p = absurd (omega arith)

pub all_gathered : (s rest : List ℕ) (m : ℕ) → length rest < 2 → Gathering s m rest → Gathered s m
all_gathered s rest m h G r l i p =
    ⊎_elim (λ q. q) (λ q. none_in nobody i refl q) (∪_cases m nobody i (G nobody (none_left rest nobody h) r l i p))

-- the members of the first record, and those of the others
module _ (x rest : List ℕ) (two : length x ≡ 2) where
  first_members : members (x ++ rest) 0 ≡ get_or x 1 0
  unfolding members
  first_members = get_or-append x rest 0 1 (omega arith)

  later_members : (r : ℕ) → members (x ++ rest) (suc r) ≡ members rest r
  unfolding members
  later_members r =
      let d : suc (2 * suc r) ≡ length x + suc (2 * r) = omega arith in
      ap (λ (k : ℕ). get_or (x ++ rest) k 0) d ∙ get_or-append-add x rest (suc (2 * r)) 0

  one_gathered : (k : ℕ) → Gathered rest k → Gathered (x ++ rest) (get_or x 1 0 ∪ k)
  unfolding records
  one_gathered k g zero l i p = ∪-left (get_or x 1 0) k i (subst (λ (y : ℕ). In y i) first_members p)
  one_gathered k g (suc r) l i p =
      let n = length-append x rest in
      ∪_right (get_or x 1 0) k i (g r (omega arith) i (subst (λ (y : ℕ). In y i) (later_members r) p))

joined : (a b c i : ℕ) → In (a ∪ (b ∪ c)) i → In ((a ∪ b) ∪ c) i
joined a b c i p =
    ⊎_elim
    (λ x. ∪-left (a ∪ b) c i (∪-left a b i x))
    (λ y. ⊎_elim (λ x. ∪-left (a ∪ b) c i (∪_right a b i x)) (λ x. ∪_right (a ∪ b) c i x) (∪_cases b c i y))
    (∪_cases a (b ∪ c) i p)

pub more_gathered : (s rest x rest' : List ℕ) (m : ℕ) → length x ≡ 2 → rest ≡ x ++ rest' → Gathering s m rest → Gathering s (m ∪ get_or x 1 0) rest'
more_gathered s rest x rest' m two e G k g r l i p =
    joined m (get_or x 1 0) k i
    (G (get_or x 1 0 ∪ k) (subst (λ (y : List ℕ). Gathered y (get_or x 1 0 ∪ k)) (sym e) (one_gathered x rest' two k g)) r l i p)

-- ---- the names of one node more are written
pub one_named : (t names : List ℕ) (n x : ℕ) → n < length names → NamedTo t names n → Names t x (head_of t n) → NamedTo t (set names n x) (n + 1)
one_named t names n x l N w v h =
    ⊎_elim
    (λ (q : n ≤ v).
    let d : n ≡ v = omega arith in
    subst (λ (k : ℕ). Names t (names_at (set names n x) k) (head_of t k)) d
    (subst (λ (m : ℕ). Names t m (head_of t n)) (sym (get_or-set_same names n x 0 l)) w))
    (λ (q : v < n). subst (λ (m : ℕ). Names t m (head_of t v)) (sym (get_or-set_other names n v x 0 (λ e. omega arith))) (N v q))
    (le-or-lt n v)
