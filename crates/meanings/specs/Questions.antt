-- SPECIFICATION 8: what each operation answers, for any list of words, sets, node number, allowance and room.
-- Order: the table's numbers 1 to 7; 8; then 9, 11 and 13 as the search meets them; 10 last.
use Rattle.std.specs.Prelude.{Bool, true, false, cond, List, [], ◌∷◌, ℕ, leb, ltb, length}
use Rattle.meanings.specs.Of as of
use Rattle.sets.specs.Sets.{everyone, within}
use Rattle.meanings.specs.Table.{records, nodes}
use Rattle.meanings.specs.Faults.{Check, sound, fault, check}
use Rattle.meanings.specs.Trees.{Pair, Walk, hit, missed, stuck, Listing, listed, broken, walk, list}
use Rattle.meanings.specs.Intact.{Ended, intact_are, divided, stuck_after}
use Rattle.meanings.specs.Replies.{Reply, reply, ◌is◌, Place, Nodes, Records, Answer, Set, Rounds, First, Second, Count, Visits}

-- numbers 1 to 7 come first
abbrev pub on_check : Check → Reply → Reply
on_check sound r = r
on_check (fault k p) r = reply k (Place is p ∷ [])

-- 8: an argument set or node number outside the nodes
abbrev pub in_nodes : Bool → Reply → Reply
in_nodes true r = r
in_nodes false r = reply 8 []

-- 9: the allowance ends first
abbrev pub in_allowance : ℕ → ℕ → Reply → Reply
in_allowance allowance visits r = cond (leb visits allowance) r (reply 9 (Visits is allowance ∷ []))

-- 10: buffer too short
abbrev pub in_room : ℕ → ℕ → Reply → Reply
in_room room count r = cond (ltb room count) (reply 10 (Count is count ∷ [])) r

abbrev pub yes_or_no : Bool → Reply
yes_or_no true = reply 0 (Answer is 1 ∷ [])
yes_or_no false = reply 0 (Answer is 0 ∷ [])

-- ---- the answers of the searches, within an allowance
abbrev pub verdict_says : ℕ → Walk Pair → Reply
verdict_says allowance (missed k) = in_allowance allowance k (reply 0 (Answer is 1 ∷ Visits is k ∷ []))
verdict_says allowance (hit p k) =
    in_allowance allowance k (reply 0 (Answer is 0 ∷ First is p.first ∷ Second is p.second ∷ Visits is k ∷ []))
verdict_says allowance (stuck k) = in_allowance allowance k (reply 13 [])

abbrev pub list_says : ℕ → ℕ → Listing ℕ → Reply
list_says allowance room (listed l k) =
    in_allowance allowance k (in_room room (length l) (reply 0 (Count is length l ∷ Visits is k ∷ [])))
list_says allowance room (broken k) = in_allowance allowance k (reply 13 [])

-- the sets that a list puts at the front of the lent list, where it is answered
abbrev pub list_puts : Listing ℕ → List ℕ
list_puts (listed l k) = l
list_puts (broken k) = []

abbrev pub intact_says : ℕ → Ended → Reply
intact_says allowance (intact_are q k) = in_allowance allowance k (reply 0 (Set is q ∷ Visits is k ∷ []))
intact_says allowance (divided p k) =
    in_allowance allowance k (reply 11 (First is p.first ∷ Second is p.second ∷ Visits is k ∷ []))
intact_says allowance (stuck_after k) = in_allowance allowance k (reply 13 [])

-- ---- the operations
module _ (t : List ℕ) where
  -- check a packed table
  unfoldable pub check_reply : Reply
  check_reply = on_check (check t) (reply 0 (Nodes is nodes t ∷ Records is records t ∷ []))

  -- is u a quorum, with d counted out
  unfoldable pub quorum_reply : ℕ → ℕ → Reply
  quorum_reply d u =
      on_check (check t)
      (in_nodes (within d (everyone (nodes t)))
      (in_nodes (within u (everyone (nodes t))) (yes_or_no (of.quorum t d u))))

  -- the greatest quorum within u, with d counted out
  unfoldable pub greatest_reply : ℕ → ℕ → Reply
  greatest_reply d u =
      on_check (check t)
      (in_nodes (within d (everyone (nodes t)))
      (in_nodes (within u (everyone (nodes t)))
      (reply 0 (Set is of.greatest t d u ∷ Rounds is of.rounds t d u ∷ []))))

  -- does b block node v
  unfoldable pub blocks_reply : ℕ → ℕ → Reply
  blocks_reply b v =
      on_check (check t)
      (in_nodes (within b (everyone (nodes t))) (in_nodes (ltb v (nodes t)) (yes_or_no (of.blocks t b v))))

  -- do all quorums intersect, with d counted out
  unfoldable pub verdict_reply : ℕ → ℕ → Reply
  verdict_reply d allowance =
      on_check (check t)
      (in_nodes (within d (everyone (nodes t))) (verdict_says allowance (walk (of.verdict_tree t d))))

  -- the minimal quorums, and the minimal blocking sets, into a lent list of so many words
  unfoldable pub minimal_reply : ℕ → ℕ → Reply
  minimal_reply allowance room = on_check (check t) (list_says allowance room (list (of.minimal_tree t)))

  unfoldable pub blocking_reply : ℕ → ℕ → Reply
  blocking_reply allowance room = on_check (check t) (list_says allowance room (list (of.blocking_tree t)))

  -- the intact nodes for the ill set b
  unfoldable pub intact_reply : ℕ → ℕ → Reply
  intact_reply b allowance =
      on_check (check t)
      (in_nodes (within b (everyone (nodes t))) (intact_says allowance (of.intact_search t b)))
