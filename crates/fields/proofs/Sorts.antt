-- A kind that no field has stands for no text.
use Prim.Native.Nat.{ℕ}
use mathlib.Core.Path.{◌≡◌, refl}
use mathlib.Core.List.{List}
use borrow.Author.Tests.{ne_eqb}
use Rattle.decimal.specs.Bytes.{Written}
use Rattle.fields.specs.Fields.{kind_text}

pub no_kind : (kind x : ℕ) (d : List ℕ) → ¬ (kind ≡ 0) → ¬ (kind ≡ 1) → ¬ (kind ≡ 2) → Written (kind_text kind x) d d 0
unfolding kind_text
no_kind kind x d a b c = rw (ne_eqb kind 0 a, ne_eqb kind 1 b, ne_eqb kind 2 c) (record { count = refl; bytes = refl })
