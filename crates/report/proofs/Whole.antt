-- The report on a sheet is that on the table it was read to, or the line of what its reader says. A report fits one result only.
use Prim.Native.Nat.{ℕ, ◌≤◌}
use mathlib.Core.Path.{◌≡◌, ap, sym, subst, ◌∙◌}
use mathlib.Core.Bool.{false}
use mathlib.Core.List.{List, [], ◌∷◌}
use borrow.Author.Tests.{eq-eqb}
use lib.Dec.{eqb}
use Rattle.std.specs.Prelude.{Result, Ok, Err}
use lib.ListN.{length, take, drop}
use lib.Seq.{take_at}
use Rattle.meanings.specs.Replies.{Reply, reply, value, ◌is◌, Count, lent_exact}
use Rattle.answers.specs.declared.Refusal.{Refusal}
use Rattle.answers.specs.Said.{read_says}
use Rattle.answers.proofs.Exact.{wrote_exact}
use Rattle.sheets.specs.Sheets.{read_reply, read_puts}
use Rattle.sheets.specs.Promises.{ReadPromise}
use Rattle.sheets.proofs.Numbers.{answered}
use Rattle.sheets.proofs.Trips.{answer_is}
use Rattle.sheets.proofs.Bounds.{first_bytes}
use Rattle.report_lines.specs.Lines.{refused_line}
use Rattle.report.specs.Report.{most_words, report_on, report_of, ReportPromise}
use Rattle.report.proofs.Parts.{refusal_some}

-- ---- a sheet that is read: the table is its words, which have room there
module _ (s before after : List ℕ) (r : Result ℕ Refusal) (p : ReadPromise s before after r) (room : length before ≡ most_words) where
  pub reads : read_says r ≡ read_reply s most_words
  reads = rw room at p.answers

  module _ (count : ℕ) (e : r ≡ Ok count) where
    counting : read_reply s most_words ≡ reply 0 (Count is count ∷ [])
    counting = sym reads ∙ ap read_says e

    number : (read_reply s most_words).number ≡ 0
    number = ap (λ (x : Reply). x.number) counting

    counted : length (read_puts s) ≡ count
    counted = ap (λ (x : Reply). value x Count) (sym (answer_is s most_words (answered s most_words number)) ∙ counting)

    pub words_within : count ≤ most_words
    words_within = subst (λ (x : ℕ). x ≤ most_words) counted (answered s most_words number).room-enough

    pub table_read : take count after ≡ read_puts s
    table_read = rw (rw room at p.holds, number) (take_at (read_puts s) (drop (length (read_puts s)) before) count counted)

    pub good_sheet : report_on (take count after) ≡ report_of s
    unfolding report_of
    good_sheet = rw (table_read, eq-eqb (read_reply s most_words).number 0 number)

-- ---- a bad sheet: the line of what its reader says
pub bad_sheet : (s before after : List ℕ) (r : Result ℕ Refusal) → ReadPromise s before after r → length before ≡ most_words
    → (e : Refusal) → r ≡ Err e → refused_line (read_says r) ≡ report_of s
unfolding report_of
bad_sheet s before after r p room e h =
    let same = reads s before after r p room in
    let some : eqb (read_says r).number 0 ≡ false = rw h (refusal_some e) in
    rw (← same, some)

-- the first 65,536 bytes of a sheet give the same report as all
pub first_bytes_decide : (s : List ℕ) → report_of (take 65536 s) ≡ report_of s
unfolding report_of
first_bytes_decide s = let f = first_bytes s in rw (f.says most_words, f.puts)

-- two results that both fit are equal
pub report_exact : (sheet before a b : List ℕ) (x y : Result ℕ Refusal) → ReportPromise sheet before a x → ReportPromise sheet before b y → (x ≡ y) × (a ≡ b)
report_exact sheet before a b x y p q = let e = lent_exact p q in (wrote_exact x y e.0, e.1)
