-- SPECIFICATION 1, and of 3 what it is to satisfy a quorum set.
-- A table is a list of words, two a record: the control word, threshold + 256 x level, and the member mask.
use Rattle.std.specs.Prelude.{Bool, not, ◌&&◌, List, ℕ, zero, suc, ◌+◌, ◌-◌, ◌*◌, ◌/◌, ◌%◌, leb, eqb, length, get_or}
use Rattle.sets.specs.Sets.{size, ◌∩◌, empty}
use Rattle.sets.specs.Lists.{keep, some, from}

-- Records are counted from 0 here. The whole lent list is the table.
unfoldable pub records : List ℕ → ℕ
records t = length t / 2

unfoldable pub control : List ℕ → ℕ → ℕ
control t r = get_or t (2 * r) 0

unfoldable pub members : List ℕ → ℕ → ℕ
members t r = get_or t (suc (2 * r)) 0

unfoldable pub threshold : List ℕ → ℕ → ℕ
threshold t r = control t r % 256

unfoldable pub level : List ℕ → ℕ → ℕ
level t r = control t r / 256

-- A level 0 record opens the next node, numbered from 0, and is its quorum set.
unfoldable pub heads : List ℕ → List ℕ
heads t = keep (λ r. eqb (level t r) 0) (from 0 (records t))

unfoldable pub nodes : List ℕ → ℕ
nodes t = length (heads t)

unfoldable pub head_of : List ℕ → ℕ → ℕ
head_of t v = get_or (heads t) v 0

-- Record j, after record r, is an inner set of it: r is the nearest earlier record one level up.
unfoldable pub inner_of : List ℕ → ℕ → ℕ → Bool
inner_of t r j =
    eqb (level t j) (suc (level t r))
    && not (some (λ m. eqb (level t m) (level t r)) (from (suc r) (j - suc r)))

-- the direct inner sets of record r, which come after it
unfoldable pub inner_sets : List ℕ → ℕ → List ℕ
inner_sets t r = keep (inner_of t r) (from (suc r) (records t - suc r))

-- The entries of a set are its members and its direct inner sets.
unfoldable pub entries : List ℕ → ℕ → ℕ
entries t r = size 64 (members t r) + length (inner_sets t r)

-- An archive whose sheet is unknown: a level 0 record with threshold 0, no members and no inner sets.
unfoldable pub unknown : List ℕ → ℕ → Bool
unknown t r = eqb (threshold t r) 0 && eqb (level t r) 0 && empty (members t r) && eqb (length (inner_sets t r)) 0

-- So many entries are enough for record r when they number at least the threshold. An unknown archive is never satisfied: none are enough.
unfoldable pub suffice : List ℕ → ℕ → ℕ → Bool
suffice t r k = not (unknown t r) && leb (threshold t r) k

-- U satisfies a quorum set when the members in U, plus the direct inner sets that U satisfies, number at least the
-- threshold. An inner set is judged the same way, down to the last level: `left` is how many levels lie below.
unfoldable pub satisfies : ℕ → List ℕ → ℕ → ℕ → Bool
satisfies zero t u r = suffice t r (size 64 (members t r ∩ u))
satisfies (suc left) t u r =
    suffice t r (size 64 (members t r ∩ u) + length (keep (λ j. satisfies left t u j) (inner_sets t r)))

-- U satisfies the quorum set of node v: a level 0 record has three levels below it
unfoldable pub satisfied : List ℕ → ℕ → ℕ → Bool
satisfied t u v = satisfies 3 t u (head_of t v)
