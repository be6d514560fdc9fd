-- Lists of numbers in a row and a test: a row is split where one likes, so a walk over it takes one number at a time.
use mathlib.Core.Path.{◌≡◌, refl, sym, ap, ◌∙◌}
use mathlib.Core.Bool.{Bool, true, false, ◌||◌, or_assoc, or-false}
use mathlib.Core.List.{List, [], ◌∷◌, ◌++◌}
use Prim.Native.Nat.{ℕ, zero, suc, ◌+◌, ◌≤◌, ◌<◌}
use native.Mathlib.Nat.{add-zero, suc-add, zero-add, not-suc-le-zero, le_of_suc-le-suc, le_refl}
use native.Mathlib.Numerals.{add-one}
use native.Mathlib.Omega.{arith}
use lib.ListN.{length, get_or, length-append}
use Rattle.sets.specs.Lists.{keep, cons_if, some, from}
use Rattle.tables.specs.Run.{bump}

pub length_from : (a n : ℕ) → length (from a n) ≡ n
unfolding from
length_from a zero = refl
length_from a (suc n) = ap suc (length_from (suc a) n)

module _ (p : ℕ → Bool) where
  -- whether some of a row pass, with its last number taken apart
  pub some_last : (a n : ℕ) → some p (from a (suc n)) ≡ (some p (from a n) || p (a + n))
  unfolding some from
  some_last a zero = rw add-zero (or-false (p a))
  some_last a (suc n) =
      let e : suc a + n ≡ a + suc n = omega arith in
      ap (λ (b : Bool). p a || b) (some_last (suc a) n ∙ ap (λ (k : ℕ). some p (from (suc a) n) || p k) e)
      ∙ sym (or_assoc (p a) (some p (from (suc a) n)) (p (a + suc n)))

  -- what passes of two rows, one after the other
  cons_if-append : (b : Bool) (x : ℕ) (l m : List ℕ) → cons_if b x (l ++ m) ≡ cons_if b x l ++ m
  cons_if-append true x l m = refl
  cons_if-append false x l m = refl

  pub keep_split : (a n m : ℕ) → keep p (from a (n + m)) ≡ keep p (from a n) ++ keep p (from (a + n) m)
  unfolding keep from
  keep_split a zero m = rw (zero-add, add-zero)
  keep_split a (suc n) m =
      let e : suc a + n ≡ a + suc n = omega arith in
      rw suc-add
      (ap (λ (l : List ℕ). cons_if (p a) a l) (keep_split (suc a) n m ∙ ap (λ (k : ℕ). keep p (from (suc a) n) ++ keep p (from k m)) e)
      ∙ cons_if-append (p a) a (keep p (from (suc a) n)) (keep p (from (a + suc n) m)))

  length-cons_if : (b : Bool) (x : ℕ) (l : List ℕ) → length (cons_if b x l) ≡ bump b (length l)
  length-cons_if true x l = refl
  length-cons_if false x l = refl

  pub keep_first : (a n : ℕ) → length (keep p (from a (suc n))) ≡ bump (p a) (length (keep p (from (suc a) n)))
  unfolding keep from
  keep_first a n = length-cons_if (p a) a (keep p (from (suc a) n))

  last_one : (b : Bool) (x : ℕ) (l : List ℕ) → length (l ++ cons_if b x []) ≡ bump b (length l)
  last_one true x l = length-append l (x ∷ []) ∙ add-one (length l)
  last_one false x l = length-append l [] ∙ add-zero (length l)

  -- how many pass, with the last number taken apart
  pub keep_last : (a n : ℕ) → length (keep p (from a (suc n))) ≡ bump (p (a + n)) (length (keep p (from a n)))
  unfolding keep from
  keep_last a n =
      let e : suc n ≡ n + 1 = omega arith in
      ap (λ (k : ℕ). length (keep p (from a k))) e
      ∙ ap length (keep_split a n 1) ∙ last_one (p (a + n)) (a + n) (keep p (from a n))

  -- nothing passes where each number fails
  pub keep-none : (a n : ℕ) → ((i : ℕ) → a ≤ i → i < a + n → p i ≡ false) → keep p (from a n) ≡ []
  unfolding keep from
  keep-none a zero f = refl
  keep-none a (suc n) f =
      ap (λ (b : Bool). cons_if b a (keep p (from (suc a) n))) (f a (le_refl a) (omega arith))
      ∙ keep-none (suc a) n (λ i h l. f i (omega arith) (omega arith))

  -- each that passes lies in the row
  pub record Picked (a n x : ℕ) : Type 0 where
    pub from_first : a ≤ x
    pub to_last : x < a + n
    pub passes : p x ≡ true

  later : (a n x : ℕ) → Picked (suc a) n x → Picked a (suc n) x
  later a n x w = record { from_first = omega arith; to_last = omega arith; passes = w.passes }

  pub keep_at : (a n v : ℕ) → v < length (keep p (from a n)) → Picked a n (get_or (keep p (from a n)) v 0)
  unfolding keep from
  keep_at a zero v h = absurd (not-suc-le-zero h)
  keep_at a (suc n) v h = go (λ i l. keep_at (suc a) n i l) (p a) refl v h
    where
      go : ((i : ℕ) → i < length (keep p (from (suc a) n)) → Picked (suc a) n (get_or (keep p (from (suc a) n)) i 0))
          → (b : Bool) → p a ≡ b → (i : ℕ) → i < length (cons_if b a (keep p (from (suc a) n)))
          → Picked a (suc n) (get_or (cons_if b a (keep p (from (suc a) n))) i 0)
      go rest true e zero l = record { from_first = le_refl a; to_last = omega arith; passes = e }
      go rest true e (suc i) l = later a n (get_or (keep p (from (suc a) n)) i 0) (rest i (le_of_suc-le-suc l))
      go rest false e i l = later a n (get_or (keep p (from (suc a) n)) i 0) (rest i l)
