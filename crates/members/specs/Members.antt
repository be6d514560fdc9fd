-- Member lists (SPECIFICATION 2): ids in rising order with commas, no repeats; a lone `-` means no members.
-- A set of nodes is a number below 2^64, in which node i has the value 2^i.
use Rattle.std.specs.Prelude.{ℕ, zero, suc, ◌+◌, ◌/◌, ◌%◌, ◌^◌, true, false, cond, List, [], ◌∷◌, ◌++◌, ltb, eqb, get_or, drop, Option, None, Some}
use Rattle.decimal.specs.Decimal.{numeral, read_number, on_read}

-- the nodes from i to i + k - 1, in rising order, of a set whose lowest bit stands for i
unfoldable pub nodes_from : ℕ → ℕ → ℕ → List ℕ
nodes_from zero i m = []
nodes_from (suc k) i m =
    elim (eqb (m % 2) 1) [ true ↦ i ∷ nodes_from k (i + 1) (m / 2) | false ↦ nodes_from k (i + 1) (m / 2) ]

unfoldable pub with_commas : List ℕ → List ℕ
with_commas [] = []
with_commas (i ∷ []) = numeral i
with_commas (i ∷ j ∷ is) = numeral i ++ 44 ∷ with_commas (j ∷ is)

-- the text of the set m
unfoldable pub member_text : ℕ → List ℕ
member_text m = cond (eqb m 0) (45 ∷ []) (with_commas (nodes_from 64 0 m))

-- the id at the start of t, at least `least` and at most 63, and how many bytes it takes
unfoldable pub read_id : List ℕ → ℕ → Option (ℕ × ℕ)
read_id t least = on_read (read_number t) None (λ v k. cond (ltb v least) None (cond (ltb 63 v) None (Some (v, k))))

-- the set m in u bytes, and then what was read behind it
unfoldable pub join : ℕ → ℕ → Option (ℕ × ℕ) → Option (ℕ × ℕ)
join m u None = None
join m u (Some rest) = Some (m + rest.0, u + rest.1)

-- the ids at the start of t, rising from `least` on, at most f of them: a comma tells that another follows
unfoldable pub read_ids : ℕ → List ℕ → ℕ → Option (ℕ × ℕ)
read_ids zero t least = None
read_ids (suc f) t least =
    on_read (read_id t least) None
    (λ v k. cond (eqb (get_or t k 0) 44) (join (2 ^ v) (k + 1) (read_ids f (drop (k + 1) t) (v + 1))) (Some (2 ^ v, k)))

-- the member list at the start of s: the set, and how many bytes it takes
unfoldable pub read_members : List ℕ → Option (ℕ × ℕ)
read_members s = cond (eqb (get_or s 0 0) 45) (Some (0, 1)) (read_ids 64 s 0)
