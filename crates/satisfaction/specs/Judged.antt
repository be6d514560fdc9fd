-- Judging the quorum set of any record, in the words of SPECIFICATION 3.
use Rattle.std.specs.Prelude.{Bool, List, ℕ, ◌-◌}
use Rattle.sets.specs.Sets.{size, ◌∩◌}
use Rattle.meanings.specs.Table.{records, members, threshold, satisfies}
use Rattle.tables.specs.Run.{inner_run}

-- u satisfies the quorum set of record r. No record has more than three levels below it, so that the three are no part of the meaning:
-- u satisfies it when it is known and the members in u, plus the direct inner sets that u satisfies, number at least the threshold (`Laws.judged`).
abbrev pub holds : List ℕ → ℕ → ℕ → Bool
holds t u r = satisfies 3 t u r

-- what the members of record r in u leave to its inner sets
abbrev pub lack : List ℕ → ℕ → ℕ → ℕ
lack t u r = threshold t r - size 64 (members t r ∩ u)

-- how many sets at level k + 1 a walk still meets that u satisfies, from record j up to the first at level k or a lower one
abbrev pub still : List ℕ → ℕ → ℕ → ℕ → ℕ
still t u k j = inner_run (holds t u) t k (records t - j) j
