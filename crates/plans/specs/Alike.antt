-- Quorum sets that are alike, and what is written of them.
use Rattle.std.specs.Prelude.{◌≡◌, true, List, ℕ, suc, ◌-◌, ◌*◌, get_or, take, drop}
use Rattle.sets.specs.Sets.{has}
use Rattle.meanings.specs.Table.{records, heads, head_of, satisfies}

-- Records are alike where whoever satisfies one satisfies the other.
abbrev pub Alike : List ℕ → ℕ → ℕ → Type 0
Alike t a b = (w : ℕ) → satisfies 3 t w a ≡ satisfies 3 t w b

-- where the quorum set of node v ends: at the record that opens the next node, or with the table
unfoldable pub set_end : List ℕ → ℕ → ℕ
set_end t v = get_or (heads t) (suc v) (records t)

-- the words of its records
unfoldable pub set_of : List ℕ → ℕ → List ℕ
set_of t v = take (2 * set_end t v - 2 * head_of t v) (drop (2 * head_of t v) t)

-- m has node v, and none whose quorum set is not like that of v.
pub record LikeNode (t : List ℕ) (v m : ℕ) : Type 0 where
  pub itself : has m v ≡ true
  pub alike : (i : ℕ) → has m i ≡ true → Alike t (head_of t i) (head_of t v)
