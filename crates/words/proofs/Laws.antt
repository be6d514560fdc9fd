-- A number that no word has stands for no text.
use Prim.Native.Nat.{ℕ}
use mathlib.Core.Path.{◌≡◌, refl}
use mathlib.Core.List.{List}
use borrow.Author.Tests.{ne_eqb}
use Rattle.decimal.specs.Bytes.{Written}
use Rattle.words.specs.Words.{numbered_text}

pub no_word : (w : ℕ) (d : List ℕ) → ¬ (w ≡ 0) → ¬ (w ≡ 1) → ¬ (w ≡ 2) → ¬ (w ≡ 3) → ¬ (w ≡ 4) → ¬ (w ≡ 5) → ¬ (w ≡ 6) → ¬ (w ≡ 7) → ¬ (w ≡ 8) → ¬ (w ≡ 9)
    → ¬ (w ≡ 10) → Written (numbered_text w) d d 0
unfolding numbered_text
no_word w d a b c e f g h i j k l =
    rw (
      ne_eqb w 0 a,
      ne_eqb w 1 b,
      ne_eqb w 2 c,
      ne_eqb w 3 e,
      ne_eqb w 4 f,
      ne_eqb w 5 g,
      ne_eqb w 6 h,
      ne_eqb w 7 i,
      ne_eqb w 8 j,
      ne_eqb w 9 k,
      ne_eqb w 10 l,
    )
    (record { count = refl; bytes = refl })
