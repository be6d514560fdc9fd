-- What the sets that a walk stands in still want, a counter a level, and what comes of it.
use Rattle.std.specs.Prelude.{◌≡◌, Bool, List, ℕ, zero, suc, ◌+◌, leb}
use Rattle.tables.specs.Run.{bump}
use Rattle.satisfaction.specs.Judged.{still}
use Rattle.satisfaction.specs.declared.Wanted.{Wanted}

-- A set that wants so many inner sets, of which n are still to come: 1 if it is satisfied then and 0 if not. One that wants none has been
-- counted already.
unfoldable pub owed : (wanted n : ℕ) → ℕ
owed zero n = 0
owed (suc wanted) n = bump (leb (suc wanted) n) 0

-- Whether the set that is judged gets what it wants, where n1 of its inner sets are still to come, n2 of the last one's, and n3 of that one's last.
unfoldable pub comes : (outer inner inmost n3 n2 n1 : ℕ) → Bool
comes outer inner inmost n3 n2 n1 = leb outer (owed inner (owed inmost n3 + n2) + n1)

-- whatever is still to come, w gets what is told of it
abbrev pub Gets : Wanted → ((n3 n2 n1 : ℕ) → Bool) → Type 0
Gets w told = (n3 n2 n1 : ℕ) → comes w.outer w.inner w.inmost n3 n2 n1 ≡ told n3 n2 n1

-- what w gets from the records from j on, the set that is judged being at level k
abbrev pub left : List ℕ → ℕ → ℕ → ℕ → Wanted → Bool
left t u k j w = comes w.outer w.inner w.inmost (still t u (suc (suc k)) j) (still t u (suc k) j) (still t u k j)
