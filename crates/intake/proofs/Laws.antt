-- The lines of a sheet that comes in through a window: what is taken of the window stays taken whatever follows.
use Prim.Native.Nat.{ℕ, ◌+◌, ◌-◌, ◌*◌, ◌≤◌, ◌<◌}
use native.Mathlib.Nat.{zero-add}
use native.Mathlib.Omega.{arith}
use mathlib.Core.Path.{◌≡◌, refl, sym, ap, ◌∙◌, subst}
use mathlib.Core.Bool.{Bool, true, false, cond}
use mathlib.Core.Logic.{⊎_elim}
use mathlib.Core.List.{List, [], ◌∷◌, ◌++◌, append_assoc, append-nil}
use borrow.Author.Tests.{le-ltb}
use lib.ListN.{length, take, drop, get_or, length-append, length-take, length-drop, take-append-drop}
use lib.Seq.{get_or-drop, paste, drop-paste, take-paste, length-take-le, take-add, take-append_seam, drop-append_seam, drop-append-le, drop-append-add}
use borrow.Rule.Slice.PartMut.{put_mid}
use Rattle.sets.proofs.Bools.{either}
use Rattle.std.proofs.lemmas.List.{drop-take}
use Rattle.std.specs.List.{copy_within}
use Rattle.std.specs.Prelude.{Result, Ok, Err, Option, None, Some}
use Rattle.std.specs.declared.io.Error.{Error}
use Rattle.lines.specs.Lines.{read_line, given, is_nought}
use Rattle.lines.specs.declared.Line.{Line}
use Rattle.meanings.specs.Faults.{Check, sound, fault, check_lines}
use Rattle.meanings.specs.Replies.{Reply, Named, reply, ◌is◌, Place, Count, rank, value}
use Rattle.meanings.specs.Questions.{on_check}
use Rattle.answers.specs.Said.{refusal_says, read_says}
use Rattle.answers.specs.declared.Fault.TheVariants as Fx
use Rattle.answers.specs.declared.Refusal.{Refusal}
use Rattle.answers.specs.declared.Refusal.TheVariants as Xx
use Rattle.sheets.specs.Sheets.{Taken, words, stops, earlier, sheet_lines, take_lines, before, read_reply, read_puts}
use Rattle.sheets.specs.Promises.{Takes, with_record}
use Rattle.sheets.specs.declared.Lines.{Lines}
use Rattle.sheets.proofs.Taking.{TakenUpTo, all_taken, surplus, malformed, one_more, line-some, before_nothing}
use Rattle.sheets.proofs.Bounds.{used_most, line_longer, line_cut}
use Rattle.intake.specs.declared.Window.{Window}
use Rattle.intake.specs.Intake.{Widens, UpTo, Took, Reaches, Judges, WasRead, TakesIn}

-- what is put back in the place of the end of a list is as long as that
pub part_length : (a : ℕ) (xs ys : List ℕ) → a ≤ length xs → length (put_mid a (length xs - a) xs ys) ≡ length xs → length ys ≡ length xs - a
part_length a xs ys h e =
    let k = length xs - a in
    let z = drop k (drop a xs) in
    let l1 = length-append (take a xs) (ys ++ z) in
    let l2 = length-append ys z in
    let l3 = length-take a xs in
    let l4 = length-drop k (drop a xs) in
    let l5 = length-drop a xs in
    omega arith

-- a byte further on is still the one that was there
pub later : (b : List ℕ) (used i : ℕ) → used + i < length b → get_or (paste b 0 (drop used b) i) (used + i) 0 ≡ get_or (drop used b) i 0
later b used i h =
    let F = drop used b in
    let n : i ≤ length F = omega (arith, length-drop used b) in
    let e : used + i ≡ i + used = omega arith in
    let z : 0 + i ≡ i = zero-add i in
    ap (λ (k : ℕ). get_or (paste b 0 F i) k 0) e
    ∙ sym (get_or-drop i (paste b 0 F i) used 0)
    ∙ ap (λ (l : List ℕ). get_or l used 0) (ap (λ (k : ℕ). drop k (paste b 0 F i)) (sym z) ∙ drop-paste b 0 F i (omega arith) n ∙ ap (λ (k : ℕ). drop k b) z)
    ∙ get_or-drop i b used 0
    ∙ ap (λ (k : ℕ). get_or b k 0) (sym e)
    ∙ sym (get_or-drop used b i 0)

-- ---- the lines of what comes in

-- nothing is taken yet
pub at_first : (o : List ℕ) → UpTo o [] 0 0
unfolding sheet_lines
at_first o = record { past = []; lines = λ rest. sym (before_nothing (take_lines 256 1 rest)) }

-- a malformed line of as many bytes as the longest has is malformed whatever follows
still_bad : (w : List ℕ) → read_line w ≡ None → 188 ≤ length w → (rest : List ℕ) → (x : Option (Line × ℕ)) → read_line (w ++ rest) ≡ x → read_line (w ++ rest) ≡ None
still_bad w b h rest None e = e
still_bad w b h rest (Some (l, k)) e =
    let u = used_most (w ++ rest) l k e in
    let g : read_line w ≡ Some (l, k) = ap read_line (sym (take-append_seam w rest)) ∙ line_cut (w ++ rest) (length w) k (omega arith) l e in
    let y : ◌≡◌ {A = Option (Line × ℕ)} None (Some (l, k)) = sym b ∙ g in
    cc

module _ (o w : List ℕ) (r x : ℕ) (U : UpTo o w r x) where
  abbrev at : ℕ
  at = length U.past

  from_here : (rest : List ℕ) → drop at (U.past ++ (w ++ rest)) ≡ w ++ rest
  from_here rest = drop-append_seam U.past (w ++ rest)

  pub up_to : (rest : List ℕ) → TakenUpTo (U.past ++ (w ++ rest)) o at r x
  up_to rest = U.lines rest ∙ ap (λ (s : List ℕ). before (take (2 * r) o) x (take_lines (256 - r) (r + 1) s)) (sym (from_here rest))

  together : (rest : List ℕ) → (U.past ++ w) ++ rest ≡ U.past ++ (w ++ rest)
  together rest = append_assoc U.past w rest

  lengths : (rest : List ℕ) → length (U.past ++ (w ++ rest)) ≡ at + (length w + length rest)
  lengths rest = length-append U.past (w ++ rest) ∙ ap (λ (n : ℕ). at + n) (length-append w rest)

  -- what is known of the whole, whatever follows, is known of the lines
  tells : (a : Result Lines Refusal) (ended : Bool) → ((rest : List ℕ) → (ended ≡ true → rest ≡ []) → Takes (sheet_lines (U.past ++ (w ++ rest))) o a) → Took o a ended
  tells a ended f = record { sheet = U.past ++ w; takes = λ rest e. subst (λ (s : List ℕ). Takes (sheet_lines s) o a) (sym (together rest)) (f rest e) }

  -- more bytes behind the window
  pub more_read : (fresh w' : List ℕ) → w' ≡ w ++ fresh → UpTo o w' r x
  more_read fresh w' e =
      record {
        past = U.past;
        lines = λ rest.
            let j : w' ++ rest ≡ w ++ (fresh ++ rest) = ap (λ (x : List ℕ). x ++ rest) e ∙ append_assoc w fresh rest in
            ap (λ (x : List ℕ). sheet_lines (U.past ++ x)) j
            ∙ U.lines (fresh ++ rest)
            ∙ ap (λ (s : List ℕ). before (take (2 * r) o) x (take_lines (256 - r) (r + 1) s)) (sym j);
      }

  -- no byte is left: all lines are taken
  pub told-all : (ended : Bool) → length w ≡ 0 → (ended ≡ false → ⊥) → 2 * r ≤ length o → Took o (Ok (record { count = 2 * r; nought = x })) ended
  told-all ended z n h =
      tells (Ok (record { count = 2 * r; nought = x })) ended
      (λ rest e.
      let none : rest ≡ [] = ⊎_elim e (λ f. absurd (n f)) (either ended) in
      let empty : length rest ≡ 0 = ap length none in
      all_taken (U.past ++ (w ++ rest)) o at r x (up_to rest) (omega (arith, lengths rest)) h)

  -- a byte is left where no line is left to take
  pub told-surplus : (ended : Bool) → 0 < length w → r ≡ 256 → Took o (Err (Xx.Bad (Fx.Count 257))) ended
  told-surplus ended h f =
      tells (Err (Xx.Bad (Fx.Count 257))) ended
      (λ rest e. rw (surplus (U.past ++ (w ++ rest)) o at r x (up_to rest) (omega (arith, lengths rest)) f) refl)

  -- a malformed line, which is there as a whole
  pub told_malformed : (ended : Bool) → 0 < length w → r < 256 → read_line w ≡ None → (ended ≡ false → 188 ≤ length w) → Took o (Err (Xx.Malformed (r + 1))) ended
  told_malformed ended h f b g =
      tells (Err (Xx.Malformed (r + 1))) ended
      (λ rest e.
      let bad : read_line (w ++ rest) ≡ None =
      ⊎_elim (λ (p : ended ≡ true). ap read_line (ap (λ (x : List ℕ). w ++ x) (e p) ∙ append-nil w) ∙ b)
      (λ (p : ended ≡ false). still_bad w b (g p) rest (read_line (w ++ rest)) refl)
      (either ended) in
      rw (malformed (U.past ++ (w ++ rest)) o at r x (up_to rest) (omega (arith, lengths rest)) f (ap read_line (from_here rest) ∙ bad)) refl)

  -- a good line: its record is put, and the window begins behind it
  pub one_line : (l : Line) (k : ℕ) → r < 256 → 2 * r + 1 < length o → read_line w ≡ Some (l, k)
      → UpTo (with_record o r l.level (given l.threshold) l.members) (drop k w) (r + 1) (earlier x (cond (is_nought l.threshold) (r + 1) 0))
  one_line l k f h g =
      record {
        past = U.past ++ take k w;
        lines = λ rest.
            let o' = with_record o r l.level (given l.threshold) l.members in
            let s = U.past ++ (w ++ rest) in
            let n = line-some w l k g in
            let back : (U.past ++ take k w) ++ (drop k w ++ rest) ≡ s =
            append_assoc U.past (take k w) (drop k w ++ rest)
            ∙ ap (λ (x : List ℕ). U.past ++ x) (sym (append_assoc (take k w) (drop k w) rest) ∙ ap (λ (x : List ℕ). x ++ rest) (take-append-drop k w)) in
            let there : drop (at + k) s ≡ drop k w ++ rest = drop-append-add U.past (w ++ rest) k ∙ drop-append-le k w rest n.1 in
            ap sheet_lines back
            ∙ one_more s o at r x (up_to rest) l k f h (ap read_line (from_here rest) ∙ line_longer w l k g rest)
            ∙ ap (λ (s : List ℕ). before (take (2 * (r + 1)) o') (earlier x (cond (is_nought l.threshold) (r + 1) 0)) (take_lines (256 - (r + 1)) (r + 1 + 1) s)) there;
      }

-- a window that has grown: what was there stays in front
pub read_on : (o b a : List ℕ) (len r x : ℕ) (w : Window) → UpTo o (take len b) r x → Widens len b a (Ok w) → UpTo o (take w.count a) r x × (length (take w.count a) ≡ w.count)
read_on o b a len r x w u (longer, fits, whole, same, enough) =
    let s : w.count ≡ len + (w.count - len) = omega arith in
    let fresh = take (w.count - len) (drop len a) in (
      more_read o (take len b) r x u fresh (take w.count a)
          (ap (λ (k : ℕ). take k a) s ∙ take-add len (w.count - len) a ∙ ap (λ (l : List ℕ). l ++ fresh) same),
      length-take-le w.count a (omega arith),
    )

-- a good line has a byte, and ends within the window
pub line_in : (n : ℕ) (a : List ℕ) (l : Line) (k : ℕ) → n ≤ length a → Some (l, k) ≡ read_line (take n a) → (0 < k) × (k ≤ n)
line_in n a l k h e = let f = line-some (take n a) l k (sym e) in (f.0, omega (arith, f.1, length-take-le n a h))

-- the bytes from a place on, moved to the front
pub to_front : (a b : List ℕ) (used n : ℕ) → used ≤ n → n ≤ length a → b ≡ copy_within a used n 0 → take (n - used) b ≡ take (n - used) (drop used a)
to_front a b used n h f e =
    let k = n - used in
    let d = length-drop used a in
    ap (take k) e
    ∙ ap (λ (i : ℕ). take i (paste a 0 (drop used a) k)) (sym (zero-add k))
    ∙ take-paste a 0 (drop used a) k (omega arith) (omega arith)

-- what is left of a window behind the line that was taken
pub left_over : (a : List ℕ) (used n : ℕ) → used ≤ n → drop used (take n a) ≡ take (n - used) (drop used a)
left_over a used n h =
    let s : used + (n - used) ≡ n = omega arith in
    ap (λ (i : ℕ). drop used (take i a)) (sym s) ∙ drop-take used (n - used) a

-- the two together: the bytes behind a line that was taken, moved to the front
pub moved : (a b : List ℕ) (used n : ℕ) → used ≤ n → n ≤ length a → b ≡ copy_within a used n 0 → drop used (take n a) ≡ take (n - used) b
moved a b used n h f e = left_over a used n h ∙ sym (to_front a b used n h f e)

-- ---- what the lines came to, judged, is the answer

module _ (o s : List ℕ) where
  -- the lines are refused
  pub was_stopped : (k p : ℕ) → sheet_lines s ≡ stops k p → (f : Refusal) → refusal_says f ≡ reply k (Place is p ∷ []) → (r : Result ℕ Refusal) → r ≡ Err f → WasRead r o
  unfolding read_reply
  was_stopped k p e f t r j =
      record {
        sheet = s;
        says = rw (j, e) t;
        puts = λ n z. let y : ◌≡◌ {A = Result ℕ Refusal} (Ok n) (Err f) = sym z ∙ j in absurd (cc);
      }

  module _ (w : List ℕ) (first : ℕ) (e : sheet_lines s ≡ words w first) (t : take (length w) o ≡ w) (r : Result ℕ Refusal) where
    -- their records are refused
    pub was_bad : (k p : ℕ) → check_lines first w ≡ fault k p → read_says r ≡ reply k (Place is p ∷ []) → WasRead r o
    unfolding read_reply
    was_bad k p c said =
        record {
          sheet = s;
          says = rw (e, c) said;
          puts = λ n z.
              let named : ◌≡◌ {A = List Named} (Count is n ∷ []) (Place is p ∷ []) = ap (λ (x : Reply). x.names) (sym (ap read_says z) ∙ said) in
              let one : ◌≡◌ {A = Named} (Count is n) (Place is p) = cc in
              let q : ◌≡◌ {A = ℕ} 8 0 = ap (λ (x : Named). rank x.field) one in
              absurd (omega arith);
        }

    -- they are a sound table
    pub was_good : length w ≤ 512 → check_lines first w ≡ sound → read_says r ≡ reply 0 (Count is length w ∷ []) → WasRead r o
    unfolding read_reply read_puts
    was_good fits c said =
        record {
          sheet = s;
          says = rw (e, c, le-ltb 512 (length w) fits) said;
          puts = λ n z.
              let y : n ≡ length w = ap (λ (x : Reply). value x Count) (sym (ap read_says z) ∙ said) in
              let d = length-take (length w) o in
              (ap (λ (i : ℕ). take i o) y ∙ t ∙ rw e refl, omega (arith, ap length t));
        }

    was_checked : length w ≤ 512 → (c : Check) → check_lines first w ≡ c → read_says r ≡ on_check c (reply 0 (Count is length w ∷ [])) → WasRead r o
    was_checked fits sound c said = was_good fits c said
    was_checked fits (fault k p) c said = was_bad k p c said

  by_lines : length o ≡ 512 → (x : Taken) → sheet_lines s ≡ x → (a : Result Lines Refusal) → Takes x o a → (r : Result ℕ Refusal) → Judges a o r → WasRead r o
  by_lines room (stops k p) e (Ok l) t r j = absurd t
  by_lines room (stops k p) e (Err f) t r j = was_stopped k p e f t r j
  by_lines room (words w first) e a t r j =
      let fits : length w ≤ 512 = omega (arith, ap length t.1, length-take (length w) o) in
      let there = subst (λ (x : Result Lines Refusal). Judges x o r) t.0 j in
      was_checked w first e t.1 r fits (check_lines first w) refl
      (subst (λ (x : List ℕ). read_says r ≡ on_check (check_lines first x) (reply 0 (Count is length w ∷ []))) t.1 there)

  in_list : (x : Taken) (a : Result Lines Refusal) → Takes x o a → Reaches a (length o)
  in_list (stops k p) (Ok l) t = absurd t
  in_list (stops k p) (Err f) t = tt
  in_list (words w first) a t = subst (λ (x : Result Lines Refusal). Reaches x (length o)) (sym t.0) (omega (arith, ap length t.1, length-take (length w) o))

-- of the sheet with nothing behind it
module _ (o : List ℕ) (a : Result Lines Refusal) (ended : Bool) (L : Took o a ended) where
  abbrev whole : List ℕ
  whole = L.sheet ++ []

  -- the words that are told stand in the list
  pub reaches : Reaches a (length o)
  reaches = in_list o whole (sheet_lines whole) a (L.takes [] (λ e. refl))

  pub was_read : length o ≡ 512 → (r : Result ℕ Refusal) → Judges a o r → WasRead r o
  was_read room r j = by_lines o whole room (sheet_lines whole) refl a (L.takes [] (λ e. refl)) r j

-- as whoever takes it in learns it
pub taken_in : (a : List ℕ) (x : Result (Result ℕ Refusal) Error) (r : Result ℕ Refusal) → TakesIn a x → x ≡ Ok r → WasRead r a
taken_in a x r h e = subst (TakesIn a) e h
