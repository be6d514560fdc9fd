-- Two answers that say the same are the same: an answer has number 0 and a refusal never has, and from what either says it can be read back.
use Rattle.std.proofs.Common.{◌≡◌, refl, sym, ap, ◌∙◌, Bool, true, false, ℕ, Result, Ok, Err, eqb}
use Rattle.meanings.specs.Replies.{Reply, value, Place, Nodes, Records, Answer, Set, Rounds, First, Second, Count, Visits}
use Rattle.answers.specs.declared.Fault.{Fault}
use Rattle.answers.specs.declared.Fault.TheVariants as Fx
use Rattle.answers.specs.declared.Refusal.{Refusal}
use Rattle.answers.specs.declared.Refusal.TheVariants as Xx
use Rattle.answers.specs.declared.Size.{Size}
use Rattle.answers.specs.declared.Greatest.{Greatest}
use Rattle.answers.specs.declared.Verdict.{Verdict}
use Rattle.answers.specs.declared.Verdict.TheVariants as Vx
use Rattle.answers.specs.declared.Listed.{Listed}
use Rattle.answers.specs.declared.Intact.{Intact}
use Rattle.answers.specs.Said.{fault_says, refusal_says, size_says, count_says, yes_says, set_says, decision_says, sets_say, well_says, either, checked_says, read_says, wrote_says, judged_says, greatest_says, verdict_says, listed_says, intact_says}

module _ {A : Type 0} where
  abbrev pick : Bool → A → A → A
  pick true x y = x
  pick false x y = y

  -- what can be read back is known by what it says
  pub told_back : (says : A → Reply) (back : Reply → A) → ((x : A) → back (says x) ≡ x) → (x y : A) → says x ≡ says y → x ≡ y
  told_back says back f x y e = sym (f x) ∙ ap back e ∙ f y

-- ---- why a question is not answered
abbrev fault_from : Reply → Fault
fault_from r =
    let p = value r Place in
    pick (eqb r.number 1) (Fx.Count p) (pick (eqb r.number 2) (Fx.Control p) (pick (eqb r.number 3) (Fx.Level p)
    (pick (eqb r.number 4) (Fx.Nodes p) (pick (eqb r.number 5) (Fx.Threshold p) (pick (eqb r.number 6) (Fx.Member p) (Fx.Entries p))))))

fault_back : (f : Fault) → fault_from (fault_says f) ≡ f
fault_back (Fx.Count p) = refl
fault_back (Fx.Control p) = refl
fault_back (Fx.Level p) = refl
fault_back (Fx.Nodes p) = refl
fault_back (Fx.Threshold p) = refl
fault_back (Fx.Member p) = refl
fault_back (Fx.Entries p) = refl

pub fault_exact : (x y : Fault) → fault_says x ≡ fault_says y → x ≡ y
fault_exact = told_back fault_says fault_from fault_back

abbrev refusal_from : Reply → Refusal
refusal_from r =
    pick (eqb r.number 8) Xx.Outside (pick (eqb r.number 9) (Xx.Spent (value r Visits)) (pick (eqb r.number 10) (Xx.Short (value r Count))
    (pick (eqb r.number 11) (Xx.Divided (value r First) (value r Second) (value r Visits)) (pick (eqb r.number 12) (Xx.Malformed (value r Place))
    (pick (eqb r.number 13) Xx.Unsplit (Xx.Bad (fault_from r)))))))

refusal_back : (e : Refusal) → refusal_from (refusal_says e) ≡ e
refusal_back (Xx.Bad (Fx.Count p)) = refl
refusal_back (Xx.Bad (Fx.Control p)) = refl
refusal_back (Xx.Bad (Fx.Level p)) = refl
refusal_back (Xx.Bad (Fx.Nodes p)) = refl
refusal_back (Xx.Bad (Fx.Threshold p)) = refl
refusal_back (Xx.Bad (Fx.Member p)) = refl
refusal_back (Xx.Bad (Fx.Entries p)) = refl
refusal_back Xx.Outside = refl
refusal_back (Xx.Spent k) = refl
refusal_back (Xx.Short c) = refl
refusal_back (Xx.Divided a b k) = refl
refusal_back (Xx.Malformed l) = refl
refusal_back Xx.Unsplit = refl

pub refusal_exact : (x y : Refusal) → refusal_says x ≡ refusal_says y → x ≡ y
refusal_exact = told_back refusal_says refusal_from refusal_back

-- ---- neither has the number 0
abbrev pub not_answered : {E : Type 0} → (E → Reply) → Type 0
not_answered {E} says = (e : E) → (says e).number ≡ 0 → ⊥

pub fault_not : not_answered fault_says
fault_not (Fx.Count p) e = cc
fault_not (Fx.Control p) e = cc
fault_not (Fx.Level p) e = cc
fault_not (Fx.Nodes p) e = cc
fault_not (Fx.Threshold p) e = cc
fault_not (Fx.Member p) e = cc
fault_not (Fx.Entries p) e = cc

pub refusal_not : not_answered refusal_says
refusal_not (Xx.Bad f) e = fault_not f e
refusal_not Xx.Outside e = cc
refusal_not (Xx.Spent k) e = cc
refusal_not (Xx.Short c) e = cc
refusal_not (Xx.Divided a b k) e = cc
refusal_not (Xx.Malformed l) e = cc
refusal_not Xx.Unsplit e = cc

-- ---- an answer or a refusal
-- the answers of one sort: each has the number 0, and can be read back
record Answers {A : Type 0} (says : A → Reply) : Type 0 where
  pub from : Reply → A
  pub back : (x : A) → from (says x) ≡ x
  pub nought : (x : A) → (says x).number ≡ 0

module _ {A E : Type 0} {answer : A → Reply} {refusal : E → Reply} (answers : Answers answer) (refused : not_answered refusal)
    (exact : (x y : E) → refusal x ≡ refusal y → x ≡ y) where
  apart : (x : A) (e : E) → answer x ≡ refusal e → ⊥
  apart x e same = refused e (sym (ap (λ (r : Reply). r.number) same) ∙ answers.nought x)

  either_exact : (x y : Result A E) → either answer refusal x ≡ either answer refusal y → x ≡ y
  either_exact (Ok x) (Ok y) same = ap Ok (told_back answer answers.from answers.back x y same)
  either_exact (Ok x) (Err e) same = absurd (apart x e same)
  either_exact (Err e) (Ok x) same = absurd (apart x e (sym same))
  either_exact (Err e) (Err f) same = ap Err (exact e f same)

module _ {A : Type 0} {answer : A → Reply} (answers : Answers answer) where
  or_refused : (x y : Result A Refusal) → either answer refusal_says x ≡ either answer refusal_says y → x ≡ y
  or_refused = either_exact answers refusal_not refusal_exact

sizes : Answers size_says
sizes = record { from = λ r. record { nodes = value r Nodes; records = value r Records }; back = λ x. refl; nought = λ x. refl }

counts : Answers count_says
counts = record { from = λ r. value r Count; back = λ x. refl; nought = λ x. refl }

yes_back : (x : Bool) → eqb (value (yes_says x) Answer) 1 ≡ x
yes_back true = refl
yes_back false = refl

yes_nought : (x : Bool) → (yes_says x).number ≡ 0
yes_nought true = refl
yes_nought false = refl

judged : Answers yes_says
judged = record { from = λ r. eqb (value r Answer) 1; back = yes_back; nought = yes_nought }

greatest : Answers set_says
greatest = record { from = λ r. record { set = value r Set; rounds = value r Rounds }; back = λ x. refl; nought = λ x. refl }

abbrev verdict_from : Reply → Verdict
verdict_from r = pick (eqb (value r Answer) 1) (Vx.Yes (value r Visits)) (Vx.No (value r First) (value r Second) (value r Visits))

verdict_back : (x : Verdict) → verdict_from (decision_says x) ≡ x
verdict_back (Vx.Yes k) = refl
verdict_back (Vx.No a b k) = refl

verdict_nought : (x : Verdict) → (decision_says x).number ≡ 0
verdict_nought (Vx.Yes k) = refl
verdict_nought (Vx.No a b k) = refl

verdicts : Answers decision_says
verdicts = record { from = verdict_from; back = verdict_back; nought = verdict_nought }

listed : Answers sets_say
listed = record { from = λ r. record { count = value r Count; visits = value r Visits }; back = λ x. refl; nought = λ x. refl }

intact : Answers well_says
intact = record { from = λ r. record { set = value r Set; visits = value r Visits }; back = λ x. refl; nought = λ x. refl }

pub checked_exact : (x y : Result Size Fault) → checked_says x ≡ checked_says y → x ≡ y
checked_exact = either_exact sizes fault_not fault_exact

pub read_exact : (x y : Result ℕ Refusal) → read_says x ≡ read_says y → x ≡ y
read_exact = or_refused counts

pub wrote_exact : (x y : Result ℕ Refusal) → wrote_says x ≡ wrote_says y → x ≡ y
wrote_exact = or_refused counts

pub judged_exact : (x y : Result Bool Refusal) → judged_says x ≡ judged_says y → x ≡ y
judged_exact = or_refused judged

pub greatest_exact : (x y : Result Greatest Refusal) → greatest_says x ≡ greatest_says y → x ≡ y
greatest_exact = or_refused greatest

pub verdict_exact : (x y : Result Verdict Refusal) → verdict_says x ≡ verdict_says y → x ≡ y
verdict_exact = or_refused verdicts

pub listed_exact : (x y : Result Listed Refusal) → listed_says x ≡ listed_says y → x ≡ y
listed_exact = or_refused listed

pub intact_exact : (x y : Result Intact Refusal) → intact_says x ≡ intact_says y → x ≡ y
intact_exact = or_refused intact
