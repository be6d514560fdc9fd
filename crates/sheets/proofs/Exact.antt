-- The promises leave no choice: what an answer says is given, no two answers say the same, and what the buffer then holds is given too.
use mathlib.Core.Path.{◌≡◌}
use mathlib.Core.List.{List}
use Prim.Native.Nat.{ℕ}
use Rattle.meanings.specs.Replies.{lent_exact}
use Rattle.std.proofs.Common.{Result}
use Rattle.answers.specs.declared.Refusal.{Refusal}
use Rattle.answers.proofs.Exact.{read_exact, wrote_exact}
use Rattle.sheets.specs.Promises.{ReadPromise, WritePromise}

pub read_sheet_exact : (sheet before a b : List ℕ) (x y : Result ℕ Refusal) → ReadPromise sheet before a x → ReadPromise sheet before b y → (x ≡ y) × (a ≡ b)
read_sheet_exact sheet before a b x y f g = let e = lent_exact f g in (read_exact x y e.0, e.1)

pub write_sheet_exact : (table before a b : List ℕ) (x y : Result ℕ Refusal) → WritePromise table before a x → WritePromise table before b y → (x ≡ y) × (a ≡ b)
write_sheet_exact table before a b x y f g = let e = lent_exact f g in (wrote_exact x y e.0, e.1)
