-- Rows about unknown archives: the small cases that a technician would try, and one for each wrong reading that was thought of; 'not so' names the
-- readings that the rows below it refuse. The answers are the second house's.
use Rattle.std.specs.Prelude.{◌≡◌, refl, List, [], ◌∷◌, ℕ}
use Rattle.sets.specs.Sets.{nobody}
use Rattle.meanings.specs.Faults.{Check, sound, fault, check_lines}
use Rattle.meanings.specs.Replies.{reply, ◌is◌, Place, Nodes, Records, Answer, Set, Rounds, First, Second, Count, Visits}
use Rattle.meanings.specs.Rows.{nodes_of, line, table, Row, check, quorum, greatest, blocks, verdict, intact, minimal, blocking, Every, computing}
use Rattle.meanings.specs.Points.{enough, room}

-- Silent: three archives, and none has sent a sheet. Mute: one.
unfoldable pub silent : List ℕ
silent = table (line 0 0 [] ∷ line 0 0 [] ∷ line 0 0 [] ∷ [])

unfoldable pub mute : List ℕ
mute = table (line 0 0 [] ∷ [])

-- Missing: Trio, but the third has sent nothing.
unfoldable pub missing : List ℕ
missing = table (line 0 2 (0 ∷ 1 ∷ 2 ∷ []) ∷ line 0 2 (0 ∷ 1 ∷ 2 ∷ []) ∷ line 0 0 [] ∷ [])

-- Stranded: 0 waits for an unknown archive too, and 1 for 0.
unfoldable pub stranded : List ℕ
stranded = table (line 0 3 (0 ∷ 1 ∷ 2 ∷ []) ∷ line 0 2 (0 ∷ 1 ∷ []) ∷ line 0 0 [] ∷ [])

-- Befouled: 0 and 2 wait for each other or for 1, which is unknown.
unfoldable pub befouled : List ℕ
befouled = table (line 0 1 (1 ∷ 2 ∷ []) ∷ line 0 0 [] ∷ line 0 1 (0 ∷ 1 ∷ []) ∷ [])

-- Waiting: three that wait for each other, and two unknown. Apart: two that wait for themselves alone. Spared: 1 waits for itself alone, and 0 for 1 or for 2.
unfoldable pub waiting : List ℕ
waiting = table (line 0 3 (0 ∷ 1 ∷ 2 ∷ []) ∷ line 0 3 (0 ∷ 1 ∷ 2 ∷ []) ∷ line 0 3 (0 ∷ 1 ∷ 2 ∷ []) ∷ line 0 0 [] ∷ line 0 0 [] ∷ [])

unfoldable pub apart : List ℕ
apart = table (line 0 0 [] ∷ line 0 1 (1 ∷ []) ∷ line 0 1 (2 ∷ []) ∷ [])

unfoldable pub spared : List ℕ
spared = table (line 0 1 (1 ∷ 2 ∷ []) ∷ line 0 1 (1 ∷ []) ∷ line 0 0 [] ∷ [])

-- ---- which records are unknown archives
unfoldable pub zeros : List Row
zeros =
    -- an unknown archive is a node; not so: every threshold of 0 is refused
    check silent (reply 0 (Nodes is 3 ∷ Records is 3 ∷ []))
    ∷ check missing (reply 0 (Nodes is 3 ∷ Records is 3 ∷ []))
    ∷ check (0 ∷ 0 ∷ 1 ∷ 1 ∷ []) (reply 0 (Nodes is 2 ∷ Records is 2 ∷ []))
    -- not so: threshold 0 passes above level 0
    ∷ check (1 ∷ 1 ∷ 256 ∷ 0 ∷ []) (reply 5 (Place is 2 ∷ []))
    -- not so: threshold 0 passes with members, be they its own, another or no node, or with an inner set
    ∷ check (0 ∷ 1 ∷ []) (reply 5 (Place is 1 ∷ []))
    ∷ check (0 ∷ 2 ∷ 1 ∷ 1 ∷ []) (reply 5 (Place is 1 ∷ []))
    ∷ check (0 ∷ 8 ∷ []) (reply 5 (Place is 1 ∷ []))
    ∷ check (0 ∷ 0 ∷ 257 ∷ 1 ∷ []) (reply 5 (Place is 1 ∷ []))
    -- the inner sets are those of the sentence as it stands, also where levels are out of step; not so: only the next record can be one
    ∷ check (0 ∷ 0 ∷ 513 ∷ 1 ∷ 257 ∷ 1 ∷ []) (reply 5 (Place is 1 ∷ []))
    ∷ check (0 ∷ 0 ∷ 1024 ∷ 0 ∷ 257 ∷ 1 ∷ []) (reply 5 (Place is 1 ∷ []))
    -- not so: every deeper record is an inner set; or the next node's inner sets count
    ∷ check (0 ∷ 0 ∷ 513 ∷ 1 ∷ []) (reply 3 (Place is 2 ∷ []))
    ∷ check (0 ∷ 0 ∷ 0 ∷ 0 ∷ 257 ∷ 1 ∷ []) (reply 5 (Place is 2 ∷ []))
    -- not so: 5 comes before 3 at the same record, or 6 before 5 at another
    ∷ check (256 ∷ 0 ∷ []) (reply 3 (Place is 1 ∷ []))
    ∷ check (1 ∷ 8 ∷ 0 ∷ 1 ∷ []) (reply 5 (Place is 2 ∷ []))
    ∷ []

pub zeros_hold : Every zeros
unfolding computing zeros silent missing
zeros_hold = refl

-- ---- the records of a sheet's lines: a written 0 gives 5, in its place among 2 to 5
abbrev pub written : List Check
written =
    -- the first line, the last, and none; not so: a written 0 is an unknown archive
    check_lines 1 silent
    ∷ check_lines 3 silent
    ∷ check_lines 0 silent
    -- not so: 5 before 3, at one record or at another; or behind 6
    ∷ check_lines 2 (257 ∷ 1 ∷ 0 ∷ 0 ∷ [])
    ∷ check_lines 2 (0 ∷ 0 ∷ 512 ∷ 0 ∷ [])
    ∷ check_lines 2 (1 ∷ 8 ∷ 0 ∷ 0 ∷ [])
    -- not so: before 5 at an earlier record
    ∷ check_lines 3 (0 ∷ 1 ∷ 1 ∷ 1 ∷ 0 ∷ 0 ∷ [])
    ∷ []

pub written_are : written ≡ (fault 5 1 ∷ fault 5 3 ∷ sound ∷ fault 3 1 ∷ fault 3 2 ∷ fault 5 2 ∷ fault 5 1 ∷ [])
unfolding computing silent
written_are = refl

-- ---- in a set, and outside one
unfoldable pub one_set : List Row
one_set =
    -- not so: threshold 0 is met by everybody; or by whoever holds the archive
    quorum mute nobody (nodes_of (0 ∷ [])) (reply 0 (Answer is 0 ∷ []))
    ∷ quorum silent nobody (nodes_of (0 ∷ 1 ∷ 2 ∷ [])) (reply 0 (Answer is 0 ∷ []))
    ∷ quorum missing nobody (nodes_of (0 ∷ 1 ∷ 2 ∷ [])) (reply 0 (Answer is 0 ∷ []))
    -- not so: an unknown archive helps nobody. Counted out it helps, as any other; but it is satisfied by none, though all others be counted out
    ∷ quorum missing nobody (nodes_of (0 ∷ 1 ∷ [])) (reply 0 (Answer is 1 ∷ []))
    ∷ quorum missing (nodes_of (2 ∷ [])) (nodes_of (0 ∷ [])) (reply 0 (Answer is 1 ∷ []))
    ∷ quorum missing (nodes_of (0 ∷ 1 ∷ [])) (nodes_of (2 ∷ [])) (reply 0 (Answer is 0 ∷ []))
    -- it is dropped in the first round
    ∷ greatest missing nobody (nodes_of (0 ∷ 1 ∷ 2 ∷ [])) (reply 0 (Set is nodes_of (0 ∷ 1 ∷ []) ∷ Rounds is 2 ∷ []))
    ∷ greatest mute nobody (nodes_of (0 ∷ [])) (reply 0 (Set is nobody ∷ Rounds is 1 ∷ []))
    ∷ greatest stranded nobody (nodes_of (0 ∷ 1 ∷ 2 ∷ [])) (reply 0 (Set is nobody ∷ Rounds is 3 ∷ []))
    -- every set blocks it, the empty one too; not so: the others are blocked too, or it counts for nothing outside a set
    ∷ blocks missing nobody 2 (reply 0 (Answer is 1 ∷ []))
    ∷ blocks missing (nodes_of (0 ∷ [])) 2 (reply 0 (Answer is 1 ∷ []))
    ∷ blocks missing (nodes_of (2 ∷ [])) 2 (reply 0 (Answer is 1 ∷ []))
    ∷ blocks mute nobody 0 (reply 0 (Answer is 1 ∷ []))
    ∷ blocks missing nobody 0 (reply 0 (Answer is 0 ∷ []))
    ∷ blocks missing (nodes_of (1 ∷ [])) 0 (reply 0 (Answer is 0 ∷ []))
    ∷ blocks missing (nodes_of (1 ∷ 2 ∷ [])) 0 (reply 0 (Answer is 1 ∷ []))
    ∷ []

pub one_set_hold : Every one_set
unfolding computing one_set mute silent missing stranded
one_set_hold = refl

-- ---- no quorum at all
unfoldable pub quorumless : List Row
quorumless =
    -- yes, none, the empty set alone, nobody intact; with unknown archives only, and with archives that need one
    verdict silent nobody enough (reply 0 (Answer is 1 ∷ Visits is 1 ∷ []))
    ∷ verdict stranded nobody enough (reply 0 (Answer is 1 ∷ Visits is 1 ∷ []))
    ∷ minimal silent enough room (reply 0 (Count is 0 ∷ Visits is 1 ∷ [])) ([])
    ∷ minimal stranded enough room (reply 0 (Count is 0 ∷ Visits is 1 ∷ [])) ([])
    ∷ blocking silent enough room (reply 0 (Count is 1 ∷ Visits is 1 ∷ [])) (nobody ∷ [])
    ∷ blocking stranded enough room (reply 0 (Count is 1 ∷ Visits is 1 ∷ [])) (nobody ∷ [])
    ∷ blocking mute enough room (reply 0 (Count is 1 ∷ Visits is 1 ∷ [])) (nobody ∷ [])
    ∷ intact silent nobody enough (reply 0 (Set is nobody ∷ Visits is 2 ∷ []))
    ∷ intact stranded (nodes_of (2 ∷ [])) enough (reply 0 (Set is nobody ∷ Visits is 2 ∷ []))
    -- the allowance and the room, exactly enough and one less
    ∷ blocking silent 1 1 (reply 0 (Count is 1 ∷ Visits is 1 ∷ [])) (nobody ∷ [])
    ∷ blocking silent 0 1 (reply 9 (Visits is 0 ∷ [])) ([])
    ∷ blocking silent 1 0 (reply 10 (Count is 1 ∷ [])) ([])
    ∷ minimal silent 1 0 (reply 0 (Count is 0 ∷ Visits is 1 ∷ [])) ([])
    ∷ []

pub quorumless_hold : Every quorumless
unfolding computing quorumless silent mute stranded
quorumless_hold = refl

-- ---- some quorums are left
unfoldable pub remaining : List Row
remaining =
    -- not so: the archive is as if counted out, which divides the others; or it is not there, and the others are intact
    verdict missing nobody enough (reply 0 (Answer is 1 ∷ Visits is 5 ∷ []))
    -- not so: pruned at half of those who can be in a quorum; it is half of the ground, the unknown archives too
    ∷ verdict waiting nobody enough (reply 0 (Answer is 1 ∷ Visits is 7 ∷ []))
    -- not so: yes wherever all nodes are no quorum
    ∷ verdict apart nobody enough (reply 0 (Answer is 0 ∷ First is nodes_of (2 ∷ []) ∷ Second is nodes_of (1 ∷ []) ∷ Visits is 4 ∷ []))
    ∷ intact apart nobody enough (reply 11 (First is nodes_of (2 ∷ []) ∷ Second is nodes_of (1 ∷ []) ∷ Visits is 4 ∷ []))
    -- not so: nobody is intact where an archive is unknown
    ∷ intact spared nobody enough (reply 0 (Set is nodes_of (1 ∷ []) ∷ Visits is 14 ∷ []))
    ∷ verdict missing (nodes_of (2 ∷ [])) enough (reply 0 (Answer is 0 ∷ First is nodes_of (1 ∷ []) ∷ Second is nodes_of (0 ∷ []) ∷ Visits is 4 ∷ []))
    ∷ verdict missing (nodes_of (0 ∷ 1 ∷ [])) enough (reply 0 (Answer is 1 ∷ Visits is 1 ∷ []))
    ∷ minimal missing enough room (reply 0 (Count is 1 ∷ Visits is 5 ∷ [])) (nodes_of (0 ∷ 1 ∷ []) ∷ [])
    ∷ blocking missing enough room (reply 0 (Count is 2 ∷ Visits is 5 ∷ [])) (nodes_of (1 ∷ []) ∷ nodes_of (0 ∷ []) ∷ [])
    ∷ intact missing nobody enough (reply 0 (Set is nobody ∷ Visits is 10 ∷ []))
    ∷ intact missing (nodes_of (2 ∷ [])) enough (reply 0 (Set is nobody ∷ Visits is 10 ∷ []))
    -- not so: whoever is not ill is intact; here nobody is, though nobody is ill
    ∷ intact befouled nobody enough (reply 0 (Set is nobody ∷ Visits is 10 ∷ []))
    ∷ []

pub remaining_hold : Every remaining
unfolding computing remaining missing befouled waiting apart spared
remaining_hold = refl
