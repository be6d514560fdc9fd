-- SPECIFICATION 10: P1 to P11, as a single table under a single claim.
use Rattle.std.specs.Prelude.{refl, List, [], ◌∷◌, ℕ}
use Rattle.sets.specs.Sets.{nobody}
use Rattle.meanings.specs.Replies.{reply, ◌is◌, Answer, Set, Rounds, First, Second, Count, Visits}
use Rattle.meanings.specs.Rows.{nodes_of, line, table, Row, quorum, greatest, verdict, intact, minimal, blocking, Every, computing}

-- Trio: three lines, each (0; 2; 0,1,2). Pairs: two lines (0; 2; 0,1), then two lines (0; 2; 2,3). Single: one line (0; 1; 0).
-- Nest: lines (0; 2; 0), (1; 1; 1,2), (0; 1; 0), (0; 1; 0).
unfoldable pub trio : List ℕ
trio = table (line 0 2 (0 ∷ 1 ∷ 2 ∷ []) ∷ line 0 2 (0 ∷ 1 ∷ 2 ∷ []) ∷ line 0 2 (0 ∷ 1 ∷ 2 ∷ []) ∷ [])

unfoldable pub pairs : List ℕ
pairs = table (line 0 2 (0 ∷ 1 ∷ []) ∷ line 0 2 (0 ∷ 1 ∷ []) ∷ line 0 2 (2 ∷ 3 ∷ []) ∷ line 0 2 (2 ∷ 3 ∷ []) ∷ [])

unfoldable pub single : List ℕ
single = table (line 0 1 (0 ∷ []) ∷ [])

unfoldable pub nest : List ℕ
nest = table (line 0 2 (0 ∷ []) ∷ line 1 1 (1 ∷ 2 ∷ []) ∷ line 0 1 (0 ∷ []) ∷ line 0 1 (0 ∷ []) ∷ [])

-- an allowance, and room for sets, that no row uses up
abbrev pub enough : ℕ
enough = 1000000

abbrev pub room : ℕ
room = 1024

unfoldable pub rows : List Row
rows =
    -- P1 Pairs: no, {2,3} and {0,1}, 6 visits.
    verdict pairs nobody enough (reply 0 (Answer is 0 ∷ First is nodes_of (2 ∷ 3 ∷ []) ∷ Second is nodes_of (0 ∷ 1 ∷ []) ∷ Visits is 6 ∷ []))
    -- P2 Pairs, allowance 5: number 9, visits 5.
    ∷ verdict pairs nobody 5 (reply 9 (Visits is 5 ∷ []))
    -- P3 Trio: yes, 11.
    ∷ verdict trio nobody enough (reply 0 (Answer is 1 ∷ Visits is 11 ∷ []))
    -- P4 Trio, {2} counted out: no, {1} and {0}, 4.
    ∷ verdict trio (nodes_of (2 ∷ [])) enough
    (reply 0 (Answer is 0 ∷ First is nodes_of (1 ∷ []) ∷ Second is nodes_of (0 ∷ []) ∷ Visits is 4 ∷ []))
    -- P5 Single: yes, 3.
    ∷ verdict single nobody enough (reply 0 (Answer is 1 ∷ Visits is 3 ∷ []))
    -- P6 Trio, minimal quorums: {1,2}, {0,2}, {0,1}, 11.
    ∷ minimal trio enough room (reply 0 (Count is 3 ∷ Visits is 11 ∷ []))
    (nodes_of (1 ∷ 2 ∷ []) ∷ nodes_of (0 ∷ 2 ∷ []) ∷ nodes_of (0 ∷ 1 ∷ []) ∷ [])
    -- P7 Trio, minimal blocking sets: the same three in that order, 11.
    ∷ blocking trio enough room (reply 0 (Count is 3 ∷ Visits is 11 ∷ []))
    (nodes_of (1 ∷ 2 ∷ []) ∷ nodes_of (0 ∷ 2 ∷ []) ∷ nodes_of (0 ∷ 1 ∷ []) ∷ [])
    -- P8 Trio, ill {2}: nobody intact, 16 visits (11 + 4 + 1).
    ∷ intact trio (nodes_of (2 ∷ [])) enough (reply 0 (Set is nobody ∷ Visits is 16 ∷ []))
    -- P9 Trio, greatest quorum within {0}: empty, 1 round.
    ∷ greatest trio nobody (nodes_of (0 ∷ [])) (reply 0 (Set is nobody ∷ Rounds is 1 ∷ []))
    -- P10 Nest: {0,2} is a quorum, {0} and {1,2} are not.
    ∷ quorum nest nobody (nodes_of (0 ∷ 2 ∷ [])) (reply 0 (Answer is 1 ∷ []))
    ∷ quorum nest nobody (nodes_of (0 ∷ [])) (reply 0 (Answer is 0 ∷ []))
    ∷ quorum nest nobody (nodes_of (1 ∷ 2 ∷ [])) (reply 0 (Answer is 0 ∷ []))
    -- P11 Trio, all counted out: yes, 1 visit.
    ∷ verdict trio (nodes_of (0 ∷ 1 ∷ 2 ∷ [])) enough (reply 0 (Answer is 1 ∷ Visits is 1 ∷ []))
    ∷ []

pub points : Every rows
unfolding computing rows trio pairs single nest
points = refl
