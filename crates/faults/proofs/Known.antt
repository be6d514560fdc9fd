-- What a caller knows from the answer of a check, whose values are those that checking comes to: a table that passes is sound, and
-- a fault is what any other question about the table answers first.
use mathlib.Core.Path.{◌≡◌, refl, ap}
use mathlib.Core.List.{List}
use Prim.Native.Nat.{ℕ}
use native.Mathlib.Omega.{arith}
use lib.ListN.{length}
use Rattle.std.specs.Prelude.{Ok, Err}
use Rattle.meanings.specs.Table.{records, nodes}
use Rattle.meanings.specs.Faults.{Check, sound, fault, check, check_lines}
use Rattle.meanings.specs.Replies.{Reply, Nodes, Records, value}
use Rattle.meanings.specs.Questions.{on_check, check_reply}
use Rattle.answers.specs.declared.Fault.{Fault}
use Rattle.answers.specs.declared.Size.{Size}
use Rattle.answers.specs.Said.{fault_says, checked_says}
use Rattle.faults.specs.Walk.{counted, lines_reply, Tells}
use Rattle.faults.proofs.Laws.{fault_number}

-- an answer that counts says that nothing is wrong, and any other hands its fault on
counted_back : (c : Check) (n k m j : ℕ) → counted n k ≡ on_check c (counted m j) → (c ≡ sound) × (n ≡ m) × (k ≡ j)
counted_back sound n k m j e = (refl, ap (λ (x : Reply). value x Nodes) e, ap (λ (x : Reply). value x Records) e)
counted_back (fault x p) n k m j e =
    let z : ◌≡◌ {A = ℕ} 2 1 = ap (λ (y : Reply). length y.names) e in
    absurd (omega arith)

fault_stays : (f : Fault) (c : Check) (n k : ℕ) → fault_says f ≡ on_check c (counted n k) → Tells c f
fault_stays f sound n k e x =
    let z : (fault_says f).number ≡ 0 = ap (λ (y : Reply). y.number) e in
    let p = fault_number f in
    absurd (omega arith)
fault_stays f (fault y p) n k e x = e

module _ (t : List ℕ) where
  pub sound_known : (s : Size) → checked_says (Ok s) ≡ check_reply t → (check t ≡ sound) × (s.nodes ≡ nodes t) × (s.records ≡ records t)
  unfolding check_reply
  sound_known s says = counted_back (check t) s.nodes s.records (nodes t) (records t) says

  pub fault_known : (f : Fault) → checked_says (Err f) ≡ check_reply t → Tells (check t) f
  unfolding check_reply
  fault_known f says = fault_stays f (check t) (nodes t) (records t) says

-- the same of the records of a sheet's lines
module _ (nought : ℕ) (t : List ℕ) where
  pub lines_sound_known : (s : Size) → checked_says (Ok s) ≡ lines_reply nought t → (check_lines nought t ≡ sound) × (s.nodes ≡ nodes t) × (s.records ≡ records t)
  lines_sound_known s says = counted_back (check_lines nought t) s.nodes s.records (nodes t) (records t) says

  pub lines_fault_known : (f : Fault) → checked_says (Err f) ≡ lines_reply nought t → Tells (check_lines nought t) f
  lines_fault_known f says = fault_stays f (check_lines nought t) (nodes t) (records t) says
