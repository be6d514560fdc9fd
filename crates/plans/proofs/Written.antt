-- What is written of a quorum set: the records from the node's own up to the one that opens the next node, which is a later one, or up to
-- the end of the table.
use mathlib.Core.Path.{◌≡◌, ap, ◌∙◌}
use mathlib.Core.Bool.{Bool, true, false}
use mathlib.Core.Logic.{◌⊎◌, inl, inr, ⊎_elim}
use mathlib.Core.List.{List}
use Prim.Native.Nat.{ℕ, zero, suc, ◌+◌, ◌-◌, ◌*◌, ◌<◌, ◌≤◌}
use native.Mathlib.Nat.{le_of_suc-le-suc}
use native.Mathlib.Omega.{arith}
use lib.ListN.{length, get_or, drop}
use Rattle.std.proofs.lemmas.List.{get_or-take, get_or-drop, get_or_past, get_or_default, length-take-le, length-drop}
use Rattle.sets.specs.Lists.{keep, cons_if, from}
use Rattle.sets.proofs.Size.{le-or-lt}
use Rattle.meanings.specs.Table.{records, control, members, level, heads, nodes, head_of}
use Rattle.tables.proofs.Lists.{keep_at}
use Rattle.tables.proofs.Heads.{head_of-lt, head_of-level}
use Rattle.plans.specs.Alike.{set_end, set_of}

-- of a row of numbers, each that passes a test is greater than the one that passes before it
keep_rises : (p : ℕ → Bool) (a n v : ℕ) → suc v < length (keep p (from a n)) → get_or (keep p (from a n)) v 0 < get_or (keep p (from a n)) (suc v) 0
unfolding keep from
keep_rises p a zero v h = absurd (omega arith)
keep_rises p a (suc n) v h = go (keep p (from (suc a) n)) (λ l. (keep_at p (suc a) n 0 l).from_first) (keep_rises p (suc a) n) (p a) v h
  where
    go : (l : List ℕ) → (0 < length l → a < get_or l 0 0) → ((i : ℕ) → suc i < length l → get_or l i 0 < get_or l (suc i) 0)
        → (b : Bool) (i : ℕ) → suc i < length (cons_if b a l) → get_or (cons_if b a l) i 0 < get_or (cons_if b a l) (suc i) 0
    go l first rest true zero h = first (le_of_suc-le-suc h)
    go l first rest true (suc i) h = rest i (le_of_suc-le-suc h)
    go l first rest false i h = rest i h

-- The records of a set are over: the table is, or this record opens a node.
abbrev pub Over : List ℕ → ℕ → Type 0
Over t r = (records t ≤ r) ⊎ (level t r ≡ 0)

-- the set of node v ends after its own record, and no later than the table
pub record Bounds (t : List ℕ) (v : ℕ) : Type 0 where
  pub begins : head_of t v < set_end t v
  pub fits : set_end t v ≤ records t
  pub over : Over t (set_end t v)

module _ (t : List ℕ) (v : ℕ) where
  -- it is the last of the table
  pub last_end : nodes t ≤ suc v → set_end t v ≡ records t
  unfolding set_end nodes
  last_end h = get_or_past (heads t) (suc v) (records t) h

  -- or there is a next one
  pub next_end : suc v < nodes t → set_end t v ≡ head_of t (suc v)
  unfolding set_end nodes head_of
  next_end h = get_or_default (heads t) (suc v) (records t) 0 h

  rises : suc v < nodes t → head_of t v < head_of t (suc v)
  unfolding nodes heads head_of
  rises h = keep_rises _ 0 (records t) v h

  pub bounds : v < nodes t → Bounds t v
  bounds l =
      ⊎_elim
      (λ (h : nodes t ≤ suc v).
      let e = last_end h in
      let d = head_of-lt t v l in
      record { begins = omega arith; fits = omega arith; over = inl (omega arith) })
      (λ (h : suc v < nodes t).
      let e = next_end h in
      let d = head_of-lt t (suc v) h in
      let r = rises h in
      record { begins = omega arith; fits = omega arith; over = inr (ap (level t) e ∙ head_of-level t (suc v) h) })
      (le-or-lt (nodes t) (suc v))

  module _ (b : Bounds t v) where
    set_length : length (set_of t v) ≡ 2 * set_end t v - 2 * head_of t v
    unfolding set_of records
    set_length =
        let l = b.begins in
        let f = b.fits in
        length-take-le (2 * set_end t v - 2 * head_of t v) (drop (2 * head_of t v) t) (simp length-drop (omega arith))

    pub set_records : head_of t v + records (set_of t v) ≡ set_end t v
    unfolding records
    set_records = let e = set_length in let l = b.begins in omega arith

    word : (k : ℕ) → k < 2 * set_end t v - 2 * head_of t v → get_or (set_of t v) k 0 ≡ get_or t (2 * head_of t v + k) 0
    unfolding set_of
    word k l =
        get_or-take (2 * set_end t v - 2 * head_of t v) (drop (2 * head_of t v) t) k 0 l ∙ get_or-drop (2 * head_of t v) t k 0

    -- its records stand in the table from the node's own on
    module _ (r : ℕ) (l : r < records (set_of t v)) where
      pub set_control : control (set_of t v) r ≡ control t (head_of t v + r)
      unfolding control
      set_control =
          let e = set_records in
          let d : 2 * head_of t v + 2 * r ≡ 2 * (head_of t v + r) = omega arith in
          word (2 * r) (omega arith) ∙ ap (λ (k : ℕ). get_or t k 0) d

      pub set_members : members (set_of t v) r ≡ members t (head_of t v + r)
      unfolding members
      set_members =
          let e = set_records in
          let d : 2 * head_of t v + suc (2 * r) ≡ suc (2 * (head_of t v + r)) = omega arith in
          word (suc (2 * r)) (omega arith) ∙ ap (λ (k : ℕ). get_or t k 0) d
