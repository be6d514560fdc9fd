-- A line is made of the number and the fields that a reply's struct shows, so it is the line of the reply itself.
use mathlib.Core.Path.{◌≡◌}
use mathlib.Core.List.{List}
use Prim.Native.Nat.{ℕ}
use Rattle.meanings.specs.Replies.{Reply as Told}
use Rattle.replies.specs.declared.Reply.{Reply}
use Rattle.replies.specs.Shows.{Shows, told}
use Rattle.report_lines.specs.Lines.{refused_line, nodes_line, answer_text, verdict_line, list_line}

module _ (r : Reply) (t : Told) (h : Shows r t) where
  pub refused-told : refused_line (told r) ≡ refused_line t
  unfolding refused_line
  refused-told = rw (h.number, h.place)

  pub nodes-told : nodes_line (told r) ≡ nodes_line t
  unfolding nodes_line
  nodes-told = rw (h.nodes, h.records)

  pub verdict-told : verdict_line (told r) ≡ verdict_line t
  unfolding verdict_line answer_text
  verdict-told = rw (h.number, h.answer, h.visits, h.first, h.second)

  pub list-told : (name : List ℕ) → list_line name (told r) ≡ list_line name t
  unfolding list_line
  list-told name = rw (h.number, h.count, h.visits)
