-- SPECIFICATION 10, at full size: 64 nodes pass and 65 give 4; 256 records pass and 257 give 1. Each row is computed from the definitions,
-- like the rows beside P1 to P11; they stand here since the largest takes seconds.
use mathlib.Core.Path.{◌≡◌, refl}
use mathlib.Core.List.{List, [], ◌∷◌, ◌++◌}
use Prim.Native.Nat.{ℕ, zero, suc}
use Rattle.meanings.specs.Faults.{fault, check_lines}
use Rattle.meanings.specs.Replies.{reply, ◌is◌, Place, Nodes, Records}
use Rattle.meanings.specs.Rows.{line, table, Row, check, Every, computing}

-- so many copies of a list, one after the other
unfoldable pub times : ℕ → List ℕ → List ℕ
times zero l = []
times (suc k) l = l ++ times k l

-- a node that waits for the last of 64, by itself and with three inner sets
unfoldable pub plain : List ℕ
plain = table (line 0 1 (63 ∷ []) ∷ [])

unfoldable pub nested : List ℕ
nested = table (line 0 2 (63 ∷ []) ∷ line 1 1 (63 ∷ []) ∷ line 1 1 (63 ∷ []) ∷ line 1 1 (63 ∷ []) ∷ [])

unfoldable pub bounds : List Row
bounds =
    check (times 64 plain) (reply 0 (Nodes is 64 ∷ Records is 64 ∷ []))
    ∷ check (times 65 plain) (reply 4 (Place is 65 ∷ []))
    -- 4 before 5 at one record
    ∷ check (times 64 plain ++ table (line 0 0 (63 ∷ []) ∷ [])) (reply 4 (Place is 65 ∷ []))
    -- an unknown archive as the last of 64 nodes, and as a 65th
    ∷ check (times 63 plain ++ table (line 0 0 [] ∷ [])) (reply 0 (Nodes is 64 ∷ Records is 64 ∷ []))
    ∷ check (times 64 plain ++ table (line 0 0 [] ∷ [])) (reply 4 (Place is 65 ∷ []))
    ∷ check (times 64 nested) (reply 0 (Nodes is 64 ∷ Records is 256 ∷ []))
    ∷ check (times 257 plain) (reply 1 (Place is 0 ∷ []))
    ∷ []

pub bounds_hold : Every bounds
unfolding computing bounds times plain nested
bounds_hold = refl

-- 4 before a written 0 at one record
pub fourth_first : check_lines 65 (times 64 plain ++ table (line 0 0 [] ∷ [])) ≡ fault 4 65
unfolding computing times plain
fourth_first = refl
