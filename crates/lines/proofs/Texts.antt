-- How long a line is: each field and one byte behind it, and a `?` has one byte as a `0` has. So no line of a sheet is longer than 188 bytes.
use Prim.Native.Nat.{ℕ, ◌+◌, ◌≤◌}
use native.Mathlib.Omega.{arith}
use mathlib.Core.Path.{◌≡◌, ap}
use mathlib.Core.Logic.{⊎_elim}
use mathlib.Core.List.{[], ◌∷◌, ◌++◌}
use borrow.Author.Tests.{ne_eqb}
use lib.ListN.{length, length-append}
use Rattle.decimal.specs.Decimal.{numeral}
use Rattle.decimal.proofs.Order.{same_or_not}
use Rattle.decimal.proofs.Numeral.{length_digit, length_byte, length_word}
use Rattle.members.specs.Members.{member_text}
use Rattle.members.proofs.Written.{length-members}
use Rattle.lines.specs.Lines.{field_text, threshold_text, last_text, line_text}

pub length_field : (n : ℕ) → length (field_text n) ≡ length (numeral n) + 1
unfolding field_text
length_field n = length-append (numeral n) (9 ∷ [])

-- the threshold of an archive that is not unknown is a number
pub threshold_number : (t : ℕ) → (t ≡ 0 → ⊥) → threshold_text t ≡ field_text t
unfolding threshold_text
threshold_number t n = rw (ne_eqb t 0 n)

pub length-threshold : (t : ℕ) → length (threshold_text t) ≡ length (field_text t)
unfolding threshold_text
length-threshold t =
    ⊎_elim
    (λ e. rw e (omega (arith, length_field 0, length_digit 0 (omega arith))))
    (λ n. ap length (threshold_number t n))
    (same_or_not t 0)

pub length_last : (m : ℕ) → length (last_text m) ≡ length (member_text m) + 1
unfolding last_text
length_last m = length-append (member_text m) (10 ∷ [])

pub length_fields : (l t m : ℕ) → length (line_text l t m) ≡ length (field_text l) + length (threshold_text t) + length (last_text m)
unfolding line_text
length_fields l t m =
    omega (arith, length-append (field_text l) (threshold_text t ++ last_text m), length-append (threshold_text t) (last_text m))

pub length-line : (l t m : ℕ) → length (line_text l t m) ≡ length (numeral l) + length (numeral t) + length (member_text m) + 3
length-line l t m = omega (arith, length_fields l t m, length_field l, length-threshold t, length_field t, length_last m)

-- what a sum of the lengths of the parts goes by
pub ruleset lengths = (length-line, length_word, length-members)

-- the longest line
pub length_most : (l t m : ℕ) → l ≤ 3 → t ≤ 255 → length (line_text l t m) ≤ 188
length_most l t m a b =
    omega (arith, length-line l t m, length_digit l (omega arith), length_byte t b, length-members m)

pub length_some : (l t m : ℕ) → 3 ≤ length (line_text l t m)
length_some l t m = omega (arith, length-line l t m)
