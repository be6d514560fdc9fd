-- The parts of the report, by what is answered. Each operation promises the reply that its line is made of; a list that is answered
-- counts its own sets, which stand at the front of what was lent. So the lines, one after the other, are the report.
use Prim.Native.Nat.{ℕ, ◌≤◌}
use native.Mathlib.Omega.{arith}
use mathlib.Core.Path.{◌≡◌, refl, sym, ap, ◌∙◌, subst}
use mathlib.Core.Bool.{true, false}
use borrow.Author.Tests.{ne_eqb}
use Rattle.std.specs.Prelude.{Result, Ok, Err}
use mathlib.Core.List.{List, ◌++◌}
use lib.Dec.{eqb}
use lib.ListN.{length, take, drop}
use lib.Seq.{take_at}
use Rattle.sets.specs.Sets.{nobody}
use Rattle.meanings.specs.Replies.{Reply as Told, value, Count, leaves}
use Rattle.meanings.specs.Table.{nodes, satisfied}
use Rattle.meanings.specs.Quorums.{minimal_quorums, minimal_blocking_sets}
use Rattle.meanings.specs.Questions.{check_reply, verdict_reply, minimal_reply, blocking_reply}
use Rattle.answers.specs.declared.Listed.{Listed}
use Rattle.answers.specs.declared.Refusal.{Refusal}
use Rattle.answers.specs.Said.{refusal_says, listed_says}
use Rattle.answers.proofs.Exact.{refusal_not}
use Rattle.replies.specs.declared.Reply.{Reply}
use Rattle.replies.specs.Shows.{Shows}
use Rattle.lists.specs.Lists.{ListsMinimal, ListsBlocking}
use Rattle.lists.proofs.Means.{minimal-all, blocking-all}
use Rattle.words.specs.declared.Word.{Word}
use Rattle.words.specs.declared.Word.TheVariants.{Minimal, Q, Blocking, B}
use Rattle.words.specs.Words.{word_text}
use Rattle.words.specs.Words as word
use Rattle.report_lines.specs.Lines.{set_lines}
use Rattle.report_lines.proofs.Told.{nodes-told, verdict-told, list-told}
use Rattle.report_parts.specs.declared.list_part.ListPart.{ListPart}
use Rattle.report_parts.specs.Parts.{following, list_text, head_text, text_of, all_text, IsListOf}
use Rattle.report.specs.Report.{list_part, Part, head_part, minimal_part, blocking_part, report_on, allowance, room}

-- a refusal's number is not 0
pub refusal_some : (e : Refusal) → eqb (refusal_says e).number 0 ≡ false
refusal_some e = ne_eqb (refusal_says e).number 0 (refusal_not e)

-- ---- a list
module _ (name letter own : List ℕ) (said : Told) (r : Reply) (h : Shows r said) where
  -- without an answer there is the line alone
  alone : (after : List ℕ) → eqb said.number 0 ≡ false → Part name letter (list_part name letter said own) r after
  unfolding following list_text list_part set_lines
  alone after e = record { few = rw (h.number, e) (omega arith); comes = rw (list-told r said h name, h.number, e) }

  -- an answer's sets come behind it
  followed : (before after : List ℕ) → eqb said.number 0 ≡ true → value said Count ≡ length own → length own ≤ 1024
      → after ≡ own ++ drop (length own) before → Part name letter (list_part name letter said own) r after
  unfolding following list_text list_part
  followed before after e n few a =
      record {
        few = rw (h.number, e, h.count, n) few;
        comes = rw (list-told r said h name, h.number, e, h.count, n, a, take_at own (drop (length own) before) (length own) refl);
      }

-- an answer that counts, counts these sets, no more than there is room for
abbrev Counts : Result Listed Refusal → (own : List ℕ) → Type 0
Counts l own = (x : Listed) → l ≡ Ok x → (x.count ≡ length own) × (x.count ≤ 1024)

listed_part : (name letter own before after : List ℕ) (l : Result Listed Refusal) (r : Reply) → Shows r (listed_says l) → Counts l own
    → after ≡ leaves (listed_says l).number own before → Part name letter (list_part name letter (listed_says l) own) r after
listed_part name letter own before after (Ok x) r h k e =
    let n = k x refl in
    let f : length own ≤ 1024 = omega (arith, n.0, n.1) in
    followed name letter own (listed_says (Ok x)) r h before after refl n.0 f e
listed_part name letter own before after (Err e) r h k a = alone name letter own (refusal_says e) r h after (refusal_some e)

module _ (t before after : List ℕ) (l : Result Listed Refusal) (r : Reply) (sets : length before ≡ 1024) (h : Shows r (listed_says l)) where
  list_whole : (name letter own : List ℕ) (said : Told) → Counts l own → listed_says l ≡ said → after ≡ leaves said.number own before
      → Part name letter (list_part name letter said own) r after
  list_whole name letter own said k e a =
      subst (λ (x : Told). Part name letter (list_part name letter x own) r after) e
      (listed_part name letter own before after l r h k (a ∙ sym (ap (λ (x : Told). leaves x.number own before) e)))

  pub minimal_part_lem : ListsMinimal t allowance before after l → Part word.minimal word.q (minimal_part t) r after
  unfolding minimal_part
  minimal_part_lem p =
      list_whole word.minimal word.q (minimal_quorums (nodes t) (satisfied t)) (minimal_reply t allowance room)
      (λ x e.
      let a = minimal-all t allowance before after x (subst (ListsMinimal t allowance before after) e p) in
      (a.counted, omega (arith, a.fits)))
      (rw sets at p.answers)
      (rw sets at p.holds)

  pub blocking_part_lem : ListsBlocking t allowance before after l → Part word.blocking word.b (blocking_part t) r after
  unfolding blocking_part
  blocking_part_lem p =
      list_whole word.blocking word.b (minimal_blocking_sets (nodes t) (satisfied t)) (blocking_reply t allowance room)
      (λ x e.
      let a = blocking-all t allowance before after x (subst (ListsBlocking t allowance before after) e p) in
      (a.counted, omega (arith, a.fits)))
      (rw sets at p.answers)
      (rw sets at p.holds)

-- ---- the report on a table: the lines of the four answers, with the sets behind each list's line
pub text_is : (name letter : Word) (r : Reply) (sets whole : List ℕ) (l : ListPart) → IsListOf name letter r (take (following r) sets) l
    → Part (word_text name) (word_text letter) whole r sets → text_of l ≡ whole
unfolding text_of
text_is name letter r sets whole l p h = rw (p.named, p.lettered, p.replied, p.follows) h.comes

pub whole : (t : List ℕ) (c v m b : Reply) (sets blocking : List ℕ) (quorums blocks : ListPart) → IsListOf Minimal Q m (take (following m) sets) quorums
    → IsListOf Blocking B b (take (following b) blocking) blocks → Shows c (check_reply t) → Shows v (verdict_reply t nobody allowance)
    → Part word.minimal word.q (minimal_part t) m sets → Part word.blocking word.b (blocking_part t) b blocking
    → all_text c v quorums blocks ≡ report_on t
unfolding all_text head_text head_part report_on
whole t c v m b sets blocking quorums blocks p q hc hv hm hb =
    rw (
      nodes-told c _ hc,
      verdict-told v _ hv,
      text_is Minimal Q m sets (minimal_part t) quorums p hm,
      text_is Blocking B b blocking (blocking_part t) blocks q hb,
    )
