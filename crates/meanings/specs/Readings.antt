-- Rows each of which shuts out a wrong reading that P1 to P11 and the further rows let pass; its comment names that reading. The
-- answers are the second house's.
use Rattle.std.specs.Prelude.{refl, List, [], ◌∷◌, ℕ}
use Rattle.sets.specs.Sets.{nobody}
use Rattle.meanings.specs.Replies.{reply, ◌is◌, Place, Nodes, Records, Answer, Set, Rounds, First, Second, Count, Visits}
use Rattle.meanings.specs.Rows.{nodes_of, line, table, Row, check, quorum, greatest, verdict, intact, minimal, blocking, Every, computing}
use Rattle.meanings.specs.Points.{trio, pairs, enough, room}
use Rattle.meanings.specs.Further.{domino}

-- Siblings: node 0's set has two inner sets, the first of which has one of its own; 1 and 2 wait for themselves.
unfoldable pub siblings : List ℕ
siblings = table (line 0 2 [] ∷ line 1 1 [] ∷ line 2 1 (1 ∷ []) ∷ line 1 1 (2 ∷ []) ∷ line 0 1 (1 ∷ []) ∷ line 0 1 (2 ∷ []) ∷ [])

-- Parted: 0 waits for 3 and 3 for itself; 1 and 2 wait for each other.
unfoldable pub parted : List ℕ
parted = table (line 0 1 (3 ∷ []) ∷ line 0 1 (2 ∷ []) ∷ line 0 1 (1 ∷ []) ∷ line 0 1 (3 ∷ []) ∷ [])

-- Tied: 0 waits for 1, 1 for 0 and 2, 2 for itself.
unfoldable pub tied : List ℕ
tied = table (line 0 1 (1 ∷ []) ∷ line 0 2 (0 ∷ 2 ∷ []) ∷ line 0 1 (2 ∷ []) ∷ [])

-- Fan: 0 waits for 1 or 2, the others for 1.
unfoldable pub fan : List ℕ
fan = table (line 0 1 (1 ∷ 2 ∷ []) ∷ line 0 1 (1 ∷ []) ∷ line 0 1 (1 ∷ []) ∷ [])

unfoldable pub readings : List Row
readings =
    -- at one record 7 before 6
    check (2 ∷ 8 ∷ []) (reply 6 (Place is 1 ∷ []))
    -- 3 at any record before 5 at any other
    ∷ check (0 ∷ 1 ∷ 513 ∷ 1 ∷ []) (reply 5 (Place is 1 ∷ []))
    -- at one record 5 before 3
    ∷ check (256 ∷ 1 ∷ []) (reply 3 (Place is 1 ∷ []))
    -- a threshold of fewer than eight bits
    ∷ check (128 ∷ 1 ∷ []) (reply 7 (Place is 1 ∷ []))
    -- an inner set's members as entries beside it
    ∷ check (table (line 0 3 (0 ∷ []) ∷ line 1 1 (1 ∷ 2 ∷ []) ∷ line 0 1 (0 ∷ []) ∷ line 0 1 (0 ∷ []) ∷ [])) (reply 7 (Place is 1 ∷ []))
    -- another node's inner set as an entry
    ∷ check (table (line 0 2 (0 ∷ []) ∷ line 0 1 (1 ∷ []) ∷ line 1 1 (1 ∷ []) ∷ [])) (reply 7 (Place is 1 ∷ []))
    -- the inner sets at an end where one of them has an inner set of its own
    ∷ check siblings (reply 0 (Nodes is 3 ∷ Records is 6 ∷ []))
    ∷ quorum siblings nobody (nodes_of (0 ∷ 1 ∷ [])) (reply 0 (Answer is 0 ∷ []))
    ∷ quorum siblings nobody (nodes_of (0 ∷ 1 ∷ 2 ∷ [])) (reply 0 (Answer is 1 ∷ []))
    -- the last round only one that leaves nothing; or a round that drops nothing not counted
    ∷ greatest domino nobody (nodes_of (0 ∷ 2 ∷ [])) (reply 0 (Set is nodes_of (2 ∷ []) ∷ Rounds is 2 ∷ []))
    -- a round judged without D; or nodes of U in D kept
    ∷ greatest domino (nodes_of (1 ∷ [])) (nodes_of (0 ∷ 1 ∷ [])) (reply 0 (Set is nodes_of (0 ∷ []) ∷ Rounds is 1 ∷ []))
    ∷ greatest trio (nodes_of (2 ∷ [])) (nodes_of (0 ∷ 2 ∷ [])) (reply 0 (Set is nodes_of (0 ∷ []) ∷ Rounds is 1 ∷ []))
    -- pruned at half of all nodes and not of the ground
    ∷ verdict parted (nodes_of (3 ∷ [])) enough
    (reply 0 (Answer is 0 ∷ First is nodes_of (0 ∷ []) ∷ Second is nodes_of (1 ∷ 2 ∷ []) ∷ Visits is 7 ∷ []))
    -- the second of the pair all that is left of the ground
    ∷ verdict parted nobody enough
    (reply 0 (Answer is 0 ∷ First is nodes_of (3 ∷ []) ∷ Second is nodes_of (1 ∷ 2 ∷ []) ∷ Visits is 5 ∷ []))
    -- split on the lowest open node, whether or not it is in the greatest quorum outside
    ∷ blocking parted enough room (reply 0 (Count is 2 ∷ Visits is 19 ∷ [])) (nodes_of (2 ∷ 3 ∷ []) ∷ nodes_of (1 ∷ 3 ∷ []) ∷ [])
    -- minimal where no node alone can be spared: here two can, together; or a visit that goes on with a chosen node that is in no
    -- quorum in reach
    ∷ minimal tied enough room (reply 0 (Count is 1 ∷ Visits is 9 ∷ [])) (nodes_of (2 ∷ []) ∷ [])
    -- an intact round that takes U as it is for Q
    ∷ intact domino (nodes_of (1 ∷ [])) enough (reply 0 (Set is nodes_of (2 ∷ []) ∷ Visits is 14 ∷ []))
    -- W1 what is left without the first quorum, whether or not that is a plain quorum
    ∷ intact fan (nodes_of (2 ∷ [])) enough (reply 0 (Set is nodes_of (1 ∷ []) ∷ Visits is 14 ∷ []))
    -- 11 whatever the allowance
    ∷ intact pairs nobody 5 (reply 9 (Visits is 5 ∷ []))
    ∷ []

pub readings_hold : Every readings
unfolding computing readings trio pairs domino siblings parted tied fan
readings_hold = refl
