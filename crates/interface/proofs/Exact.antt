-- What a C name promises fits one result only: the struct is known by the reply it shows, and the buffer by what it is to hold.
use mathlib.Core.Path.{◌≡◌}
use mathlib.Core.List.{List}
use Prim.Native.Nat.{ℕ}
use Rattle.meanings.specs.Replies.{Reply as Told, lent_exact}
use Rattle.replies.specs.declared.Reply.{Reply}
use Rattle.replies.proofs.Exact.{shows_exact}
use Rattle.interface.specs.Interface.{Fills}

pub fills_exact : (x y : Reply) (t : Told) (own before a b : List ℕ) → Fills x t own before a → Fills y t own before b → (x ≡ y) × (a ≡ b)
fills_exact x y t own before a b p q = (shows_exact x y t p.0 q.0, (lent_exact p.1 q.1).1)
