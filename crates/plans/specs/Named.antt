-- The nodes that a quorum set names, on which a plan rests.
use Rattle.std.specs.Prelude.{◌≡◌, true, false, List, ℕ, ◌<◌, get_or}
use Rattle.sets.specs.Sets.{has, nobody, ◌∩◌}
use Rattle.meanings.specs.Table.{records, members, head_of, satisfies}

-- Whoever satisfies record r goes on satisfying it as long as nobody of m is lost.
abbrev pub Names : List ℕ → ℕ → ℕ → Type 0
Names t m r = (u u' : ℕ) → ((j : ℕ) → has u j ≡ true → has m j ≡ true → has u' j ≡ true) → satisfies 3 t u r ≡ true → satisfies 3 t u' r ≡ true

-- m has the members of each record that is written in s.
abbrev pub Gathered : List ℕ → ℕ → Type 0
Gathered s m = (r : ℕ) → r < records s → (i : ℕ) → has (members s r) i ≡ true → has m i ≡ true

-- What the quorum sets of the first n nodes name, one word a node.
abbrev pub names_at : List ℕ → ℕ → ℕ
names_at names v = get_or names v 0

abbrev pub NamedTo : List ℕ → List ℕ → ℕ → Type 0
NamedTo t names n = (v : ℕ) → v < n → Names t (names_at names v) (head_of t v)

-- Of the first n nodes, each that names any of `like` is in m.
abbrev pub TouchedTo : List ℕ → ℕ → ℕ → ℕ → Type 0
TouchedTo names like m n = (i : ℕ) → i < n → has m i ≡ false → names_at names i ∩ like ≡ nobody
