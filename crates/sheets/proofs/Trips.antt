-- Both round trips. A sheet that is read has no written 0 and is the text of the words read, so writing them gives it back; and the lines of a sound
-- table's text are its records, so reading it gives the table back.
use Prim.Native.Nat.{ℕ, ◌≤◌}
use mathlib.Core.Path.{◌≡◌, ap, sym, ◌∙◌}
use mathlib.Core.List.{List, [], ◌∷◌}
use borrow.Author.Tests.{le-ltb}
use lib.ListN.{length, take, drop}
use lib.Seq.{take_at}
use Rattle.decimal.specs.Bytes.{at_front}
use Rattle.meanings.specs.Faults.{check, sound}
use Rattle.meanings.specs.Replies.{Reply, reply, ◌is◌, value, Count, leaves, Lent}
use Rattle.meanings.specs.Questions.{on_check}
use Rattle.tables.proofs.Sound.{lines_zero}
use Rattle.faults.proofs.Numbers.{check_numbered}
use Rattle.answers.specs.Said.{read_says, wrote_says}
use Rattle.std.proofs.Common.{Result, Ok}
use Rattle.answers.specs.declared.Refusal.{Refusal}
use Rattle.answers.proofs.Exact.{read_exact, wrote_exact}
use Rattle.sheets.specs.Promises.{ReadPromise, WritePromise}
use Rattle.sheets.specs.Sheets.{words, sheet_lines, sheet_text, room_reply, read_reply, read_puts, write_reply}
use Rattle.sheets.proofs.Round.{lines_text, text_lines}
use Rattle.sheets.proofs.Numbers.{Answered, answered, check-zero}

-- a sound table that has room is put
putting : (t own : List ℕ) (room : ℕ) → check t ≡ sound → length own ≤ room → on_check (check t) (room_reply own room) ≡ reply 0 (Count is length own ∷ [])
putting t own room e h = rw (e, le-ltb room (length own) h)

-- for every sheet that the reader takes, writing the table read gives the same sheet byte for byte
pub record Rewritten (s : List ℕ) : Type 0 where
  pub bytes : sheet_text (read_puts s) ≡ s
  pub says : (room : ℕ) → length s ≤ room → write_reply (read_puts s) room ≡ reply 0 (Count is length s ∷ [])

same_text : (s w : List ℕ) → sheet_lines s ≡ words w 0 → sheet_text w ≡ s
unfolding sheet_lines
same_text s w e = lines_text 256 0 s w e

rewrites : (s w : List ℕ) → check w ≡ sound → sheet_text w ≡ s → (room : ℕ) → length s ≤ room → write_reply w room ≡ reply 0 (Count is length s ∷ [])
unfolding write_reply
rewrites s w e t room h = rw t (putting w s room e h)

pub read_then_written : (s : List ℕ) (room : ℕ) → (read_reply s room).number ≡ 0 → Rewritten s
read_then_written s room h =
    let a = answered s room h in
    let t = same_text s (read_puts s) a.lines in
    record { bytes = t; says = rewrites s (read_puts s) a.records_sound t }

-- for every table that is sound, reading its text gives the same words
pub record Reread (t : List ℕ) : Type 0 where
  pub list : read_puts (sheet_text t) ≡ t
  pub says : (room : ℕ) → length t ≤ room → read_reply (sheet_text t) room ≡ reply 0 (Count is length t ∷ [])

pub written_then_read : (t : List ℕ) → check t ≡ sound → Reread t
unfolding read_reply read_puts
written_then_read t e = record { list = rw (text_lines t e); says = λ room h. rw (text_lines t e, lines_zero t) (putting t t room e h) }

-- ---- the same of the two operations, one after the other
-- what an answer with the number 0 leaves
put-zero : (told said : Reply) (own before after : List ℕ) → Lent said told own before after → told.number ≡ 0 → after ≡ at_front own before
put-zero told said own before after f e = f.holds ∙ ap (λ (k : ℕ). leaves k own before) e

count_of : (n m : ℕ) → reply 0 (Count is n ∷ []) ≡ reply 0 (Count is m ∷ []) → n ≡ m
count_of n m e = ap (λ (y : Reply). value y Count) e

-- what was put at the front is found there
found : (own before after : List ℕ) (n : ℕ) → after ≡ at_front own before → n ≡ length own → take n after ≡ own
found own before after n e h = rw e (take_at own (drop (length own) before) n (sym h))

pub answer_is : (s : List ℕ) (room : ℕ) → Answered s room → read_reply s room ≡ reply 0 (Count is length (read_puts s) ∷ [])
unfolding read_reply
answer_is s room a = rw (a.lines, lines_zero (read_puts s)) (putting (read_puts s) (read_puts s) room a.records_sound a.room-enough)

-- the words that a reader has put are the words read
words_put : (s before after : List ℕ) (n : ℕ) → ReadPromise s before after (Ok n) → (read_reply s (length before)).number ≡ 0 → take n after ≡ read_puts s
words_put s before after n f z =
    let a = answered s (length before) z in
    found (read_puts s) before after n (put-zero (read_reply s (length before)) (read_says (Ok n)) (read_puts s) before after f z)
    (count_of n (length (read_puts s)) (f.answers ∙ answer_is s (length before) a))

-- a sheet that was read is written again from the words read
pub read_write : (s before after : List ℕ) (n : ℕ) → ReadPromise s before after (Ok n) → (d o : List ℕ) (w : Result ℕ Refusal) → length s ≤ length d
    → WritePromise (take n after) d o w → (w ≡ Ok (length s)) × (o ≡ at_front s d)
read_write s before after n f d o w h g =
    let z : (read_reply s (length before)).number ≡ 0 = ap (λ (y : Reply). y.number) (sym f.answers) in
    let t = read_then_written s (length before) z in
    let k : WritePromise (read_puts s) d o w = rw (words_put s before after n f z) at g in
    let a : write_reply (read_puts s) (length d) ≡ reply 0 (Count is length s ∷ []) = t.says (length d) h in
    let b = put-zero (write_reply (read_puts s) (length d)) (wrote_says w) (sheet_text (read_puts s)) d o k (ap (λ (y : Reply). y.number) a) in
    (wrote_exact w (Ok (length s)) (k.answers ∙ a), b ∙ ap (λ (x : List ℕ). at_front x d) t.bytes)

-- the bytes that a writer has put are the text of a sound table
bytes_put : (t before after : List ℕ) (n : ℕ) → WritePromise t before after (Ok n) → (check t ≡ sound) × (take n after ≡ sheet_text t)
unfolding write_reply
bytes_put t before after n f =
    let z : (write_reply t (length before)).number ≡ 0 = ap (λ (y : Reply). y.number) (sym f.answers) in
    let c = check-zero (sheet_text t) (length before) (check t) (check_numbered t) z in
    let a = putting t (sheet_text t) (length before) c.0 c.1 in (
      c.0,
      found (sheet_text t) before after n (put-zero (write_reply t (length before)) (wrote_says (Ok n)) (sheet_text t) before after f z)
          (count_of n (length (sheet_text t)) (f.answers ∙ a)),
    )

-- a table that was written is read again from the bytes written
pub write_read : (t before after : List ℕ) (n : ℕ) → WritePromise t before after (Ok n) → (b a : List ℕ) (r : Result ℕ Refusal) → length t ≤ length b
    → ReadPromise (take n after) b a r → (r ≡ Ok (length t)) × (a ≡ at_front t b)
write_read t before after n f b a r h g =
    let p = bytes_put t before after n f in
    let x = written_then_read t p.0 in
    let k : ReadPromise (sheet_text t) b a r = rw p.1 at g in
    let e : read_reply (sheet_text t) (length b) ≡ reply 0 (Count is length t ∷ []) = x.says (length b) h in
    let y = put-zero (read_reply (sheet_text t) (length b)) (read_says r) (read_puts (sheet_text t)) b a k (ap (λ (q : Reply). q.number) e) in
    (read_exact r (Ok (length t)) (k.answers ∙ e), y ∙ ap (λ (q : List ℕ). at_front q b) x.list)
