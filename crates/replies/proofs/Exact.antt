-- A reply is known by its number and its fields: two structs that show the same are equal.
use mathlib.Core.Path.{◌≡◌, sym, ◌∙◌}
use Rattle.meanings.specs.Replies.{Reply as Told}
use Rattle.replies.specs.declared.Reply.{Reply}
use Rattle.replies.specs.Shows.{Shows}

pub shows_exact : (x y : Reply) (t : Told) → Shows x t → Shows y t → x ≡ y
shows_exact x y t p q =
    rw (
      p.number ∙ sym q.number,
      p.place ∙ sym q.place,
      p.nodes ∙ sym q.nodes,
      p.records ∙ sym q.records,
      p.answer ∙ sym q.answer,
      p.set ∙ sym q.set,
      p.rounds ∙ sym q.rounds,
      p.first ∙ sym q.first,
      p.second ∙ sym q.second,
      p.count ∙ sym q.count,
      p.visits ∙ sym q.visits,
    )
