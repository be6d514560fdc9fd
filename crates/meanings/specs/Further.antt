-- Rows beside P1 to P11: the small cases that a person would try by hand, and those that shut out wrong readings which P1 to P11
-- alone let pass. The answers are the second house's.
use Rattle.std.specs.Prelude.{refl, List, [], ◌∷◌, ℕ}
use Rattle.sets.specs.Sets.{nobody}
use Rattle.meanings.specs.Replies.{reply, ◌is◌, Place, Nodes, Records, Answer, Set, Rounds, First, Second, Count, Visits}
use Rattle.meanings.specs.Rows.{nodes_of, line, table, Row, check, quorum, greatest, verdict, intact, minimal, blocking, Every, computing}
use Rattle.meanings.specs.Points.{trio, pairs, single, nest, enough, room}

-- Lone: both wait for the second.
unfoldable pub lone : List ℕ
lone = table (line 0 1 (1 ∷ []) ∷ line 0 1 (1 ∷ []) ∷ [])

-- Couple: each waits for the other.
unfoldable pub couple : List ℕ
couple = table (line 0 1 (1 ∷ []) ∷ line 0 1 (0 ∷ []) ∷ [])

-- Deep: node 0's set lies three levels down.
unfoldable pub deep : List ℕ
deep = table (line 0 1 [] ∷ line 1 1 [] ∷ line 2 2 (1 ∷ []) ∷ line 3 1 (0 ∷ 2 ∷ []) ∷ line 0 2 (1 ∷ 2 ∷ []) ∷ line 0 1 (0 ∷ []) ∷ [])

-- Twice: node 0 stands in its set and in the inner set.
unfoldable pub twice : List ℕ
twice = table (line 0 2 (0 ∷ []) ∷ line 1 1 (0 ∷ []) ∷ line 0 2 (0 ∷ []) ∷ line 1 1 (0 ∷ 1 ∷ []) ∷ [])

-- Domino: 0 waits for 1, 1 for 2, 2 for itself.
unfoldable pub domino : List ℕ
domino = table (line 0 1 (1 ∷ []) ∷ line 0 1 (2 ∷ []) ∷ line 0 1 (2 ∷ []) ∷ [])

-- Chain: 1 waits for 0 or 2, the others for 0.
unfoldable pub chain : List ℕ
chain = table (line 0 1 (0 ∷ []) ∷ line 0 1 (0 ∷ 2 ∷ []) ∷ line 0 1 (0 ∷ []) ∷ [])

unfoldable pub further : List Row
further =
    -- a quorum that the walk meets is not listed where a smaller one lies inside it
    minimal lone enough room (reply 0 (Count is 1 ∷ Visits is 7 ∷ [])) (nodes_of (1 ∷ []) ∷ [])
    ∷ blocking lone enough room (reply 0 (Count is 1 ∷ Visits is 7 ∷ [])) (nodes_of (1 ∷ []) ∷ [])
    -- one node
    ∷ minimal single enough room (reply 0 (Count is 1 ∷ Visits is 3 ∷ [])) (nodes_of (0 ∷ []) ∷ [])
    ∷ blocking single enough room (reply 0 (Count is 1 ∷ Visits is 3 ∷ [])) (nodes_of (0 ∷ []) ∷ [])
    ∷ intact single nobody enough (reply 0 (Set is nodes_of (0 ∷ []) ∷ Visits is 6 ∷ []))
    ∷ intact single (nodes_of (0 ∷ [])) enough (reply 0 (Set is nobody ∷ Visits is 4 ∷ []))
    -- two nodes, each of which waits for the other
    ∷ verdict couple nobody enough (reply 0 (Answer is 1 ∷ Visits is 5 ∷ []))
    ∷ verdict couple (nodes_of (0 ∷ [])) enough (reply 0 (Answer is 1 ∷ Visits is 3 ∷ []))
    ∷ minimal couple enough room (reply 0 (Count is 1 ∷ Visits is 5 ∷ [])) (nodes_of (0 ∷ 1 ∷ []) ∷ [])
    ∷ greatest couple nobody (nodes_of (0 ∷ [])) (reply 0 (Set is nobody ∷ Rounds is 1 ∷ []))
    -- everything counted out
    ∷ greatest trio (nodes_of (0 ∷ 1 ∷ 2 ∷ [])) (nodes_of (0 ∷ 1 ∷ 2 ∷ [])) (reply 0 (Set is nobody ∷ Rounds is 0 ∷ []))
    ∷ quorum trio (nodes_of (0 ∷ 1 ∷ 2 ∷ [])) (nodes_of (0 ∷ [])) (reply 0 (Answer is 0 ∷ []))
    -- an inner set inside an inner set
    ∷ check deep (reply 0 (Nodes is 3 ∷ Records is 6 ∷ []))
    ∷ quorum deep nobody (nodes_of (0 ∷ 1 ∷ 2 ∷ [])) (reply 0 (Answer is 1 ∷ []))
    ∷ minimal deep enough room (reply 0 (Count is 1 ∷ Visits is 7 ∷ [])) (nodes_of (0 ∷ 1 ∷ 2 ∷ []) ∷ [])
    ∷ blocking deep enough room (reply 0 (Count is 3 ∷ Visits is 7 ∷ [])) (nodes_of (2 ∷ []) ∷ nodes_of (1 ∷ []) ∷ nodes_of (0 ∷ []) ∷ [])
    -- a node twice in one tree: each occurrence counts
    ∷ quorum twice nobody (nodes_of (0 ∷ [])) (reply 0 (Answer is 1 ∷ []))
    ∷ minimal twice enough room (reply 0 (Count is 1 ∷ Visits is 3 ∷ [])) (nodes_of (0 ∷ []) ∷ [])
    -- rounds that drop one node each; an intact question of more than one round, each of which drops a node
    ∷ greatest domino nobody (nodes_of (0 ∷ 1 ∷ [])) (reply 0 (Set is nobody ∷ Rounds is 2 ∷ []))
    ∷ intact chain (nodes_of (2 ∷ [])) enough (reply 0 (Set is nodes_of (0 ∷ []) ∷ Visits is 10 ∷ []))
    ∷ intact nest (nodes_of (1 ∷ [])) enough (reply 0 (Set is nodes_of (0 ∷ 2 ∷ []) ∷ Visits is 10 ∷ []))
    -- a divided system
    ∷ intact pairs nobody enough (reply 11 (First is nodes_of (2 ∷ 3 ∷ []) ∷ Second is nodes_of (0 ∷ 1 ∷ []) ∷ Visits is 6 ∷ []))
    -- the allowance: exactly enough, one less, none
    ∷ verdict pairs nobody 6 (reply 0 (Answer is 0 ∷ First is nodes_of (2 ∷ 3 ∷ []) ∷ Second is nodes_of (0 ∷ 1 ∷ []) ∷ Visits is 6 ∷ []))
    ∷ intact trio (nodes_of (2 ∷ [])) 16 (reply 0 (Set is nobody ∷ Visits is 16 ∷ []))
    ∷ intact trio (nodes_of (2 ∷ [])) 15 (reply 9 (Visits is 15 ∷ []))
    ∷ verdict trio (nodes_of (0 ∷ 1 ∷ 2 ∷ [])) 0 (reply 9 (Visits is 0 ∷ []))
    -- the lent list: exactly enough, one less; the allowance comes first
    ∷ minimal trio enough 3 (reply 0 (Count is 3 ∷ Visits is 11 ∷ [])) (nodes_of (1 ∷ 2 ∷ []) ∷ nodes_of (0 ∷ 2 ∷ []) ∷ nodes_of (0 ∷ 1 ∷ []) ∷ [])
    ∷ minimal trio enough 2 (reply 10 (Count is 3 ∷ [])) ([])
    ∷ blocking trio 10 0 (reply 9 (Visits is 10 ∷ [])) ([])
    -- numbers 1 to 8
    ∷ check ([]) (reply 1 (Place is 0 ∷ []))
    ∷ check (1 ∷ []) (reply 1 (Place is 0 ∷ []))
    ∷ check (1 ∷ 1 ∷ 1024 ∷ 1 ∷ []) (reply 2 (Place is 2 ∷ []))
    ∷ check (257 ∷ 1 ∷ []) (reply 3 (Place is 1 ∷ []))
    ∷ check (1 ∷ 1 ∷ 257 ∷ 1 ∷ 769 ∷ 1 ∷ []) (reply 3 (Place is 3 ∷ []))
    ∷ check (1 ∷ 1 ∷ 256 ∷ 1 ∷ []) (reply 5 (Place is 2 ∷ []))
    ∷ check (1 ∷ 3 ∷ []) (reply 6 (Place is 1 ∷ []))
    ∷ check (2 ∷ 1 ∷ 1 ∷ 1 ∷ []) (reply 7 (Place is 1 ∷ []))
    -- the order: 5 at the last record before 6 at the first; 7 at record 1 before 6 at record 2
    ∷ check (1 ∷ 8 ∷ 0 ∷ 1 ∷ []) (reply 5 (Place is 2 ∷ []))
    ∷ check (2 ∷ 1 ∷ 1 ∷ 8 ∷ []) (reply 7 (Place is 1 ∷ []))
    ∷ verdict trio (nodes_of (3 ∷ [])) enough (reply 8 ([]))
    ∷ []

pub further_hold : Every further
unfolding computing further trio pairs single nest lone couple deep twice domino chain
further_hold = refl
