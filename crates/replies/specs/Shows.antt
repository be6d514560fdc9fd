-- What a struct shows of a reply: its number, and each field's value, 0 where the reply does not name it.
use Rattle.std.specs.Prelude.{◌≡◌, [], ◌∷◌}
use Rattle.meanings.specs.Replies.{Reply as Told, reply, ◌is◌, value, Place, Nodes, Records, Answer, Set, Rounds, First, Second, Count, Visits}
use Rattle.replies.specs.declared.Reply.{Reply}

pub record Shows (r : Reply) (t : Told) : Type 0 where
  pub number : r.number ≡ t.number
  pub place : r.place ≡ value t Place
  pub nodes : r.nodes ≡ value t Nodes
  pub records : r.records ≡ value t Records
  pub answer : r.answer ≡ value t Answer
  pub set : r.set ≡ value t Set
  pub rounds : r.rounds ≡ value t Rounds
  pub first : r.first ≡ value t First
  pub second : r.second ≡ value t Second
  pub count : r.count ≡ value t Count
  pub visits : r.visits ≡ value t Visits

-- the reply that a struct shows, with every field named
abbrev pub told : Reply → Told
told r =
    reply r.number
    (Place is r.place ∷ Nodes is r.nodes ∷ Records is r.records ∷ Answer is r.answer ∷ Set is r.set ∷ Rounds is r.rounds ∷ First is r.first
    ∷ Second is r.second ∷ Count is r.count ∷ Visits is r.visits ∷ [])
