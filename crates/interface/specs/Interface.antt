-- What a C name gives back where a buffer is lent: the struct shows the reply, and the buffer is left as the reply's number asks.
use Rattle.std.specs.Prelude.{List, ℕ}
use Rattle.meanings.specs.Replies.{Reply as Told, Lent}
use Rattle.replies.specs.declared.Reply.{Reply}
use Rattle.replies.specs.Shows.{Shows}

abbrev pub Fills : Reply → Told → (own before after : List ℕ) → Type 0
Fills r t own before after = (Shows r t) × (Lent t t own before after)
