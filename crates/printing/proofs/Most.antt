-- No line of the report has more than 1,092 bytes: it has six fields at the most, whose numbers have 64 bits, and each field takes up to 182 with
-- the byte behind it.
use Prim.Native.Nat.{ℕ, zero, suc, ◌^◌, ◌≤◌, ◌<◌}
use native.Mathlib.Omega.{arith}
use mathlib.Core.Path.{◌≡◌, refl, ap}
use mathlib.Core.Logic.{⊎_elim}
use mathlib.Core.List.{List, [], ◌∷◌}
use lib.ListN.{length, get_or}
use Rattle.sets.proofs.Bools.{either}
use Rattle.std.specs.Prelude.{eqb, true, false}
use Rattle.words.specs.Words.{word_text}
use Rattle.words.specs.declared.Word.{Word}
use Rattle.words.specs.declared.Word.TheVariants as Wx
use Rattle.fields.specs.declared.Field.{Field}
use Rattle.fields.specs.declared.Field.TheVariants as Fx
use Rattle.fields.specs.Fields.{texts, line_of}
use Rattle.fields.proofs.Laws.{in_word, line_most}
use Rattle.replies.specs.declared.Reply.{Reply}
use Rattle.replies.specs.Shows.{told}
use Rattle.report_lines.specs.Lines.{refused_line, nodes_line, answer_text, verdict_line, list_line, set_line}

-- fields whose numbers have 64 bits
data Short : List Field → Type 0 where
  end : Short []
  word : (w : Word) (l : List Field) → Short l → Short (Fx.Fixed w ∷ l)
  number : (n : ℕ) (l : List Field) → n < 2 ^ 64 → Short l → Short (Fx.Number n ∷ l)
  set : (s : ℕ) (l : List Field) → Short l → Short (Fx.Set s ∷ l)

-- so it is of the field at each place
all_in : (l : List Field) → Short l → (i : ℕ) → in_word (get_or l i (Fx.Fixed Wx.Refused))
all_in _ end i = tt
all_in _ (word w l k) zero = tt
all_in _ (word w l k) (suc i) = all_in l k i
all_in _ (number n l h k) zero = h
all_in _ (number n l h k) (suc i) = all_in l k i
all_in _ (set s l k) zero = tt
all_in _ (set s l k) (suc i) = all_in l k i

-- a text that is the line of six of them at the most
text_most : (l : List Field) (text : List ℕ) → Short l → line_of l ≡ text → length l ≤ 6 → length text ≤ 1092
text_most l text k e h = omega (arith, ap (length {A = ℕ}) e, line_most l (all_in l k))

pub set_most : (letter : Word) (s : ℕ) → length (set_line (word_text letter) s) ≤ 1092
unfolding set_line line_of texts
set_most w s = text_most _ _ (word w _ (set s _ end)) refl (omega arith)

module _ (r : Reply) (h : r.number < 2 ^ 64) where
  pub refused_most : r.place < 2 ^ 64 → length (refused_line (told r)) ≤ 1092
  unfolding refused_line line_of texts
  refused_most p = text_most _ _ (word Wx.Refused _ (number r.number _ h (number r.place _ p end))) refl (omega arith)

  pub list_most : (name : Word) → r.count < 2 ^ 64 → r.visits < 2 ^ 64 → length (list_line (word_text name) (told r)) ≤ 1092
  unfolding list_line line_of texts
  list_most w c v = text_most _ _ (word w _ (number r.number _ h (number r.count _ c (number r.visits _ v end)))) refl (omega arith)

  -- with the word that answers
  answered : (w : Word) → word_text w ≡ answer_text (told r) → r.visits < 2 ^ 64 → length (verdict_line (told r)) ≤ 1092
  unfolding verdict_line line_of texts
  answered w e v =
      text_most _ _ (word Wx.Verdict _ (number r.number _ h (word w _ (number r.visits _ v (set r.first _ (set r.second _ end)))))) (rw e refl) (omega arith)

  pub verdict_most : r.visits < 2 ^ 64 → length (verdict_line (told r)) ≤ 1092
  unfolding answer_text
  verdict_most v =
      ⊎_elim
      (λ (p : eqb r.number 0 ≡ true).
      ⊎_elim
      (λ (q : eqb r.answer 1 ≡ true). answered Wx.Yes (rw (p, q) refl) v)
      (λ (q : eqb r.answer 1 ≡ false). answered Wx.No (rw (p, q) refl) v)
      (either (eqb r.answer 1)))
      (λ (p : eqb r.number 0 ≡ false). answered Wx.Hyphen (rw p refl) v)
      (either (eqb r.number 0))

pub nodes_most : (r : Reply) → r.nodes < 2 ^ 64 → r.records < 2 ^ 64 → length (nodes_line (told r)) ≤ 1092
unfolding nodes_line line_of texts
nodes_most r n k = text_most _ _ (word Wx.Nodes _ (number r.nodes _ n (word Wx.Sets _ (number r.records _ k end)))) refl (omega arith)
