-- An answer is handed on as it is: a refusal has a number above 0 and leaves the buffer untouched, and where the room is enough what is
-- written stands at the front.
use Prim.Native.Nat.{ℕ, ◌≤◌, ◌<◌}
use native.Mathlib.Omega.{arith}
use mathlib.Core.Path.{◌≡◌, refl, ap, ap₂, sym}
use mathlib.Core.List.{List, [], ◌∷◌}
use borrow.Author.Tests.{lt-ltb, le-ltb, ne_eqb}
use lib.ListN.{length, take, length-take}
use Rattle.decimal.specs.Bytes.{at_front}
use Rattle.meanings.specs.Faults.{check_lines}
use Rattle.meanings.specs.Replies.{Reply, reply, ◌is◌, Place, Count, Lent, untouched}
use Rattle.meanings.specs.Questions.{on_check}
use Rattle.answers.specs.declared.Fault.{Fault}
use Rattle.std.proofs.Common.{Ok, Err}
use Rattle.answers.specs.declared.Refusal.{Refusal}
use Rattle.answers.specs.Said.{fault_says, refusal_says}
use Rattle.sheets.specs.declared.Lines.{Lines}
use Rattle.faults.proofs.Laws.{fault_number}
use Rattle.sheets.specs.Sheets.{Taken, words, stops, on_taken, sheet_lines, room_reply, read_reply, read_puts}
use Rattle.sheets.specs.Promises.{ReadPromise, Put, Takes}
use Rattle.sheets.proofs.Numbers.{sheet_above}

module _ (own before : List ℕ) where
  pub refused : (told said : Reply) → said ≡ told → 0 < told.number → Lent said told own before before
  refused told said e h = let n : told.number ≡ 0 → ⊥ = λ z. omega arith in untouched e (ne_eqb told.number 0 n)

  -- a fault of the records is the answer, whatever would have been answered without it
  pub refused_fault : (told : Reply) (f : Fault) → fault_says f ≡ told → Lent (fault_says f) told own before before
  refused_fault told f e = refused told (fault_says f) e (rw e at (fault_number f))

  pub too_short : length before < length own → Put own before before (reply 10 (Count is length own ∷ []))
  too_short h = rw (lt-ltb (length before) (length own) h) (record { answers = refl; holds = refl })

  pub put : (after : List ℕ) → length own ≤ length before → after ≡ at_front own before
      → Put own before after (reply 0 (Count is length own ∷ []))
  put after h e = rw (le-ltb (length before) (length own) h) (record { answers = refl; holds = e })

-- ---- what taking the lines has found
pub taken_words : (x : Taken) (o : List ℕ) (l : Lines) → Takes x o (Ok l) → (x ≡ words (take l.count o) l.nought) × (l.count ≤ length o)
taken_words (stops n p) o l e = absurd e
taken_words (words w x) o l e =
    let a : l ≡ record { count = length w; nought = x } = cc in
    let n : l.count ≡ length w = ap (λ (y : Lines). y.count) a in
    (ap₂ words (sym (rw n e.1)) (sym (ap (λ (y : Lines). y.nought) a)), omega (arith, n, ap length e.1, length-take (length w) o))

module _ (s before : List ℕ) where
  by_lines : (o own : List ℕ) (e : Refusal) (g : List ℕ → ℕ → Reply) → (x : Taken) → sheet_lines s ≡ x → Takes x o (Err e)
      → Lent (refusal_says e) (on_taken x (λ k p. reply k (Place is p ∷ [])) g) own before before
  by_lines o own e g (stops k p) h t = refused own before (reply k (Place is p ∷ [])) (refusal_says e) t (sheet_above s k p h)
  by_lines o own e g (words w x) h t = let z = t.0 in absurd (cc)

  pub read_stops : (o : List ℕ) (e : Refusal) → Takes (sheet_lines s) o (Err e) → ReadPromise s before before (Err e)
  unfolding read_reply
  read_stops o e t = by_lines o (read_puts s) e (λ w x. on_check (check_lines x w) (room_reply w (length before))) (sheet_lines s) refl t

  pub read_goes : (w : List ℕ) (x : ℕ) → sheet_lines s ≡ words w x → (after : List ℕ) (said : Reply)
      → Lent said (on_check (check_lines x w) (room_reply w (length before))) w before after → Lent said (read_reply s (length before)) (read_puts s) before after
  unfolding read_reply read_puts
  read_goes w x e after said f = rw e f
