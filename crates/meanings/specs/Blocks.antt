-- Rows about blocking one node: the small cases that a technician would try, and one for each wrong reading that was thought of; 'not
-- so' names the readings that the rows below it refuse. Each answer is also held against the slices. The answers are the second
-- house's.
use Rattle.std.specs.Prelude.{refl, List, [], ◌∷◌, ℕ}
use Rattle.sets.specs.Sets.{nobody}
use Rattle.meanings.specs.Replies.{reply, ◌is◌, Place, Answer}
use Rattle.meanings.specs.Rows.{nodes_of, line, table, Row, blocks, Every, computing}
use Rattle.meanings.specs.Points.{trio, single, nest}
use Rattle.meanings.specs.Further.{lone, domino}

-- Library: 0 waits for 1 and for one of 2 and 3; the others wait for themselves.
unfoldable pub library : List ℕ
library = table (line 0 2 (1 ∷ []) ∷ line 1 1 (2 ∷ 3 ∷ []) ∷ line 0 1 (1 ∷ []) ∷ line 0 1 (2 ∷ []) ∷ line 0 1 (3 ∷ []) ∷ [])

unfoldable pub blockings : List Row
blockings =
    -- the technician's question, of an archive that is not in its own set; not so: only the nodes outside count, both must hold, or a
    -- slice need not hold its node
    blocks lone (nodes_of (0 ∷ [])) 0 (reply 0 (Answer is 1 ∷ []))
    -- a set that does not hold the node: one that blocks it, one that does not; not so: only holding the node counts
    ∷ blocks lone (nodes_of (1 ∷ [])) 0 (reply 0 (Answer is 1 ∷ []))
    ∷ blocks lone (nodes_of (0 ∷ [])) 1 (reply 0 (Answer is 0 ∷ []))
    -- nobody, and everybody
    ∷ blocks lone nobody 0 (reply 0 (Answer is 0 ∷ []))
    ∷ blocks lone nobody 1 (reply 0 (Answer is 0 ∷ []))
    ∷ blocks lone (nodes_of (0 ∷ 1 ∷ [])) 0 (reply 0 (Answer is 1 ∷ []))
    ∷ blocks lone (nodes_of (0 ∷ 1 ∷ [])) 1 (reply 0 (Answer is 1 ∷ []))
    ∷ blocks single nobody 0 (reply 0 (Answer is 0 ∷ []))
    ∷ blocks single (nodes_of (0 ∷ [])) 0 (reply 0 (Answer is 1 ∷ []))
    -- not so: some slice overlapped is enough; or the node itself does not count as present
    ∷ blocks trio (nodes_of (0 ∷ [])) 1 (reply 0 (Answer is 0 ∷ []))
    ∷ blocks trio (nodes_of (0 ∷ 2 ∷ [])) 1 (reply 0 (Answer is 1 ∷ []))
    ∷ blocks trio (nodes_of (1 ∷ [])) 1 (reply 0 (Answer is 1 ∷ []))
    -- not so: the set is to block the whole system ({2} is a quorum outside {1}); or the node is to be in no quorum outside the set
    ∷ blocks domino (nodes_of (1 ∷ [])) 0 (reply 0 (Answer is 1 ∷ []))
    ∷ blocks domino (nodes_of (2 ∷ [])) 0 (reply 0 (Answer is 0 ∷ []))
    -- not so: only the node alone blocks itself, or only the lowest node of a set
    ∷ blocks domino (nodes_of (0 ∷ 2 ∷ [])) 0 (reply 0 (Answer is 1 ∷ []))
    ∷ blocks domino (nodes_of (0 ∷ 1 ∷ [])) 1 (reply 0 (Answer is 1 ∷ []))
    -- 8 for the node or the set, though the node be in the set; the table's faults first
    ∷ blocks trio nobody 3 (reply 8 ([]))
    ∷ blocks lone (nodes_of (2 ∷ [])) 0 (reply 8 ([]))
    ∷ blocks lone (nodes_of (0 ∷ 2 ∷ [])) 0 (reply 8 ([]))
    ∷ blocks lone (nodes_of (2 ∷ [])) 2 (reply 8 ([]))
    ∷ blocks ([]) (nodes_of (0 ∷ [])) 0 (reply 1 (Place is 0 ∷ []))
    ∷ blocks (1 ∷ 3 ∷ []) (nodes_of (1 ∷ [])) 1 (reply 6 (Place is 1 ∷ []))
    ∷ []

pub blockings_hold : Every blockings
unfolding computing blockings trio single lone domino
blockings_hold = refl

-- inner sets; not so: an inner set's members are entries of the outer one
unfoldable pub nested : List Row
nested =
    blocks nest (nodes_of (0 ∷ [])) 0 (reply 0 (Answer is 1 ∷ []))
    ∷ blocks nest (nodes_of (1 ∷ [])) 0 (reply 0 (Answer is 0 ∷ []))
    ∷ blocks nest (nodes_of (1 ∷ 2 ∷ [])) 0 (reply 0 (Answer is 1 ∷ []))
    ∷ blocks library (nodes_of (1 ∷ [])) 0 (reply 0 (Answer is 1 ∷ []))
    ∷ blocks library (nodes_of (2 ∷ [])) 0 (reply 0 (Answer is 0 ∷ []))
    ∷ blocks library (nodes_of (2 ∷ 3 ∷ [])) 0 (reply 0 (Answer is 1 ∷ []))
    ∷ []

pub nested_hold : Every nested
unfolding computing nested nest library
nested_hold = refl
