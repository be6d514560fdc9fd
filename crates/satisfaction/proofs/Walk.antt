-- The steps of the walk: what the sets that it stands in want, and what a record gives to them.
use mathlib.Core.Path.{◌≡◌, refl, sym, ap, ap₂, ◌∙◌}
use mathlib.Core.Bool.{Bool, true, false}
use mathlib.Core.List.{List}
use mathlib.Core.Logic.{⊎_elim}
use Prim.Native.Nat.{ℕ, zero, suc, ◌+◌, ◌-◌, ◌<◌, ◌≤◌}
use native.Mathlib.Nat.{lt_irrefl, zero-add}
use native.Mathlib.Omega.{arith}
use borrow.Author.Tests.{le-leb, lt-leb}
use lib.Dec.{leb}
use Rattle.sets.proofs.Bools.{either}
use Rattle.meanings.specs.Table.{records, level}
use Rattle.meanings.specs.Faults.{check, sound}
use Rattle.tables.specs.Run.{bump}
use Rattle.tables.proofs.Runs.{from_stop, from_hit, from_miss, from_deeper}
use Rattle.tables.proofs.Sound.{sound_table}
use Rattle.satisfaction.specs.Judged.{holds, lack, still}
use Rattle.satisfaction.specs.Wanted.{owed, comes}
use Rattle.satisfaction.proofs.Laws.{leb_same, last_none, judged_walk}

-- ---- what a set gets

-- what wants none has been counted, and of nothing nothing comes
pub owed_none : (w : ℕ) → owed w 0 ≡ 0
unfolding owed
owed_none zero = refl
owed_none (suc w) = ap (λ (b : Bool). bump b 0) (lt-leb (suc w) 0 (omega arith))

-- where the last one wanted comes, and where one comes that is not the last
pub owed_last : (n : ℕ) → owed 1 (suc n) ≡ 1
unfolding owed
owed_last n = ap (λ (b : Bool). bump b 0) (le-leb 1 (suc n) (omega arith))

pub owed_next : (w n : ℕ) → 0 < w → ¬ (w ≡ 1) → owed w (suc n) ≡ owed (w - 1) n
unfolding owed
owed_next zero n h q = absurd (lt_irrefl 0 h)
owed_next (suc zero) n h q = absurd (q refl)
owed_next (suc (suc w)) n h q =
    let e : suc (suc w) - 1 ≡ suc w = omega arith in
    ap (λ (b : Bool). bump b 0) (leb_same (suc (suc w)) (suc n) (suc w) n (λ l. omega arith) (λ l. omega arith)) ∙ sym (ap (λ (k : ℕ). owed k n) e)

bump-add : (b : Bool) (m : ℕ) → bump b 0 + m ≡ bump b m
bump-add true m = omega arith
bump-add false m = omega arith

pub owed-bump : (w n m : ℕ) → 0 < w → owed w n + m ≡ bump (leb w n) m
unfolding owed
owed-bump zero n m h = absurd (lt_irrefl 0 h)
owed-bump (suc w) n m h = bump-add (leb (suc w) n) m

-- none is wanted
pub bump-all : (n m : ℕ) → bump (leb 0 n) m ≡ suc m
bump-all n m = ap (λ (b : Bool). bump b m) (le-leb 0 n (omega arith))

-- one that has come is no longer wanted
pub one_less : (w n : ℕ) → 0 < w → leb (w - 1) n ≡ leb w (suc n)
one_less w n h = leb_same (w - 1) n w (suc n) (λ l. omega arith) (λ l. omega arith)

owed-zero : (n m : ℕ) → owed 0 n + m ≡ m
unfolding owed
owed-zero n m = omega arith

-- below a set that wants none nothing counts
pub comes_outer : (a c n3 n2 n1 : ℕ) → comes a 0 c n3 n2 n1 ≡ leb a n1
unfolding comes
comes_outer a c n3 n2 n1 = ap (leb a) (owed-zero (owed c n3 + n2) n1)

pub comes_inner : (a b n3 n2 n1 : ℕ) → comes a b 0 n3 n2 n1 ≡ leb a (owed b n2 + n1)
unfolding comes
comes_inner a b n3 n2 n1 = ap (λ (k : ℕ). leb a (owed b k + n1)) (owed-zero n3 n2)

-- what wants none has it, and where nothing is to come what wants some does not get it
pub comes-all : (b c n3 n2 n1 : ℕ) → comes 0 b c n3 n2 n1 ≡ true
unfolding comes
comes-all b c n3 n2 n1 = le-leb 0 (owed b (owed c n3 + n2) + n1) (omega arith)

pub comes-none : (a b c : ℕ) → 0 < a → comes a b c 0 0 0 ≡ false
unfolding comes
comes-none a b c h =
    let z : owed b (owed c 0 + 0) ≡ 0 = ap (owed b) (ap (λ (x : ℕ). x + 0) (owed_none c)) ∙ owed_none b in
    lt-leb a (owed b (owed c 0 + 0) + 0) (omega arith)

-- a satisfied inner set counts, and wants none
pub counts_one : (a n3 n2 n1 : ℕ) → 0 < a → comes (a - 1) 0 0 n3 n2 n1 ≡ leb a (suc n1)
counts_one a n3 n2 n1 h = comes_outer (a - 1) 0 n3 n2 n1 ∙ one_less a n1 h

-- the last one wanted by the inner set, and one that is not the last
pub gain_last : (a b n2 n1 : ℕ) → b ≡ 1 → leb a (suc n1) ≡ leb a (owed b (suc n2) + n1)
gain_last a b n2 n1 e =
    let one : owed b (suc n2) ≡ 1 = ap (λ (k : ℕ). owed k (suc n2)) e ∙ owed_last n2 in
    let sum : suc n1 ≡ owed b (suc n2) + n1 = omega arith in
    ap (leb a) sum

pub gain_next : (a b n3 n2 n1 : ℕ) → 0 < b → ¬ (b ≡ 1) → comes a (b - 1) 0 n3 n2 n1 ≡ leb a (owed b (suc n2) + n1)
gain_next a b n3 n2 n1 h q = comes_inner a (b - 1) n3 n2 n1 ∙ ap (λ (k : ℕ). leb a (k + n1)) (sym (owed_next b n2 h q))

-- an inner set whose members are enough, and one whose members leave some wanting
pub enter_met : (a s n2 n1 : ℕ) → s ≡ 0 → leb a (suc n1) ≡ leb a (bump (leb s n2) n1)
enter_met a s n2 n1 e = ap (leb a) (sym (ap (λ (k : ℕ). bump (leb k n2) n1) e ∙ bump-all n2 n1))

pub enter_short : (a s n3 n2 n1 : ℕ) → 0 < s → comes a s 0 n3 n2 n1 ≡ leb a (bump (leb s n2) n1)
enter_short a s n3 n2 n1 h = comes_inner a s n3 n2 n1 ∙ ap (leb a) (owed-bump s n2 n1 h)

-- the same one level further down
pub inner_met : (a b s n3 n2 n1 : ℕ) → s ≡ 0 → leb a (owed b (suc n2) + n1) ≡ leb a (owed b (bump (leb s n3) n2) + n1)
inner_met a b s n3 n2 n1 e = ap (λ (k : ℕ). leb a (owed b k + n1)) (sym (ap (λ (k : ℕ). bump (leb k n3) n2) e ∙ bump-all n3 n2))

pub inner_short : (a b s n3 n2 n1 : ℕ) → 0 < s → comes a b s n3 n2 n1 ≡ leb a (owed b (bump (leb s n3) n2) + n1)
unfolding comes
inner_short a b s n3 n2 n1 h = ap (λ (k : ℕ). leb a (owed b k + n1)) (owed-bump s n3 n2 h)

-- the last one wanted at the last level, and one that is not the last
pub inmost_last : (a b c n3 n2 n1 : ℕ) → c ≡ 1 → leb a (owed b (suc n2) + n1) ≡ comes a b c (suc n3) n2 n1
unfolding comes
inmost_last a b c n3 n2 n1 e =
    let one : owed c (suc n3) ≡ 1 = ap (λ (k : ℕ). owed k (suc n3)) e ∙ owed_last n3 in
    let sum : suc n2 ≡ owed c (suc n3) + n2 = omega arith in
    ap (λ (k : ℕ). leb a (owed b k + n1)) sum

pub inmost_next : (a b c n3 n2 n1 : ℕ) → 0 < c → ¬ (c ≡ 1) → comes a b (c - 1) n3 n2 n1 ≡ comes a b c (suc n3) n2 n1
unfolding comes
inmost_next a b c n3 n2 n1 h q = ap (λ (k : ℕ). leb a (owed b (k + n2) + n1)) (sym (owed_next c n3 h q))

-- ---- what a record gives
module _ (t : List ℕ) (u k j : ℕ) (e : check t ≡ sound) (l : j < records t) where
  -- at the level of the inner sets it counts where u satisfies it
  still_here : (i : ℕ) → level t j ≡ suc i → still t u i j ≡ bump (leb (lack t u j) (still t u (suc i) (j + 1))) (still t u i (j + 1))
  still_here i q =
      let h : i < level t j = omega arith in
      let p = ((sound_table t e).at j l).inner_pos (omega arith) in
      let s = judged_walk t e u j l p ∙ ap (λ (x : ℕ). leb (lack t u j) (still t u x (j + 1))) q in
      ⊎_elim
      (λ (p : holds t u j ≡ true). from_hit (holds t u) t i j l h q p ∙ sym (ap (λ (b : Bool). bump b (still t u i (j + 1))) (sym s ∙ p)))
      (λ (p : holds t u j ≡ false). from_miss (holds t u) t i j l h p ∙ sym (ap (λ (b : Bool). bump b (still t u i (j + 1))) (sym s ∙ p)))
      (either (holds t u j))

  -- walks for sets at its level or a higher one end there, and those for sets two levels lower or more pass it by
  still_end : (i : ℕ) → level t j ≤ i → still t u i j ≡ 0
  still_end i h = from_stop (holds t u) t i j h

  still_past : (i : ℕ) → suc i < level t j → still t u i j ≡ still t u i (j + 1)
  still_past i h = from_deeper (holds t u) t i j l (omega arith) (λ q. omega arith)

  -- right below the set that is judged: the sets below it are at their end
  pub given_first : (a b c : ℕ) → level t j ≡ suc k
      → comes a b c (still t u (suc (suc k)) j) (still t u (suc k) j) (still t u k j) ≡ leb a (bump (leb (lack t u j) (still t u (suc k) (j + 1))) (still t u k (j + 1)))
  unfolding comes
  given_first a b c q =
      ap₂ (λ (x y : ℕ). leb a (owed b (owed c x + y) + still t u k j)) (still_end (suc (suc k)) (omega arith)) (still_end (suc k) (omega arith))
      ∙ ap (λ (x : ℕ). leb a (owed b x + still t u k j)) (ap (λ (x : ℕ). x + 0) (owed_none c))
      ∙ ap (λ (x : ℕ). leb a (x + still t u k j)) (owed_none b)
      ∙ ap (leb a) (zero-add (still t u k j) ∙ still_here k q)

  -- one level further down
  pub given_second : (a b c : ℕ) → level t j ≡ suc (suc k)
      → comes a b c (still t u (suc (suc k)) j) (still t u (suc k) j) (still t u k j) ≡ leb a (owed b (bump (leb (lack t u j) (still t u (suc (suc k)) (j + 1))) (still t u (suc k) (j + 1))) + still t u k (j + 1))
  unfolding comes
  given_second a b c q =
      ap₂ (λ (x y : ℕ). leb a (owed b (owed c x + still t u (suc k) j) + y)) (still_end (suc (suc k)) (omega arith)) (still_past k (omega arith))
      ∙ ap (λ (x : ℕ). leb a (owed b (x + still t u (suc k) j) + still t u k (j + 1))) (owed_none c)
      ∙ ap (λ (x : ℕ). leb a (owed b x + still t u k (j + 1))) (zero-add (still t u (suc k) j) ∙ still_here (suc k) q)

  -- at the last level, or below a set that wants none: nothing changes further up
  pub given_third : (a b c : ℕ) → suc (suc k) < level t j
      → comes a b c (still t u (suc (suc k)) j) (still t u (suc k) j) (still t u k j) ≡ comes a b c (still t u (suc (suc k)) j) (still t u (suc k) (j + 1)) (still t u k (j + 1))
  given_third a b c h =
      ap₂ (λ (x y : ℕ). comes a b c (still t u (suc (suc k)) j) x y) (still_past (suc k) h) (still_past k (omega arith))

  pub past_outer : (a c : ℕ) → suc k < level t j
      → comes a 0 c (still t u (suc (suc k)) (j + 1)) (still t u (suc k) (j + 1)) (still t u k (j + 1)) ≡ comes a 0 c (still t u (suc (suc k)) j) (still t u (suc k) j) (still t u k j)
  past_outer a c h =
      comes_outer a c (still t u (suc (suc k)) (j + 1)) (still t u (suc k) (j + 1)) (still t u k (j + 1))
      ∙ ap (leb a) (sym (still_past k h))
      ∙ sym (comes_outer a c (still t u (suc (suc k)) j) (still t u (suc k) j) (still t u k j))

  pub past_inner : (a b : ℕ) → suc (suc k) < level t j
      → comes a b 0 (still t u (suc (suc k)) (j + 1)) (still t u (suc k) (j + 1)) (still t u k (j + 1)) ≡ comes a b 0 (still t u (suc (suc k)) j) (still t u (suc k) j) (still t u k j)
  past_inner a b h =
      comes_inner a b (still t u (suc (suc k)) (j + 1)) (still t u (suc k) (j + 1)) (still t u k (j + 1))
      ∙ sym (comes_inner a b (still t u (suc (suc k)) j) (still t u (suc k) (j + 1)) (still t u k (j + 1)))
      ∙ sym (given_third a b 0 h)

  -- a set at the last level has no inner sets: its members decide
  last_level : suc (suc k) < level t j → (level t j ≡ suc (suc (suc k))) × (3 ≤ suc (suc (suc k)))
  last_level h = let b = ((sound_table t e).at j l).level-le in (omega arith, omega arith)

  pub third_here : suc (suc k) < level t j → still t u (suc (suc k)) j ≡ bump (leb (lack t u j) 0) (still t u (suc (suc k)) (j + 1))
  third_here h =
      let q = last_level h in
      still_here (suc (suc k)) q.0
      ∙ ap (λ (x : ℕ). bump (leb (lack t u j) x) (still t u (suc (suc k)) (j + 1))) (last_none t e (holds t u) (suc (suc (suc k))) (j + 1) q.1)

-- ---- the end of the walk
module _ (t : List ℕ) (u k j : ℕ) where
  -- where none is to come, what is wanted is not got
  pub left-none : (a b c : ℕ) → 0 < a → ((i : ℕ) → k ≤ i → still t u i j ≡ 0) → comes a b c (still t u (suc (suc k)) j) (still t u (suc k) j) (still t u k j) ≡ false
  left-none a b c h z =
      ap₂ (λ (x y : ℕ). comes a b c x y (still t u k j)) (z (suc (suc k)) (omega arith)) (z (suc k) (omega arith))
      ∙ ap (comes a b c 0 0) (z k (omega arith))
      ∙ comes-none a b c h
