-- Decimal numbers without leading zeros (SPECIFICATION 2).
use Rattle.std.specs.Prelude.{ℕ, zero, suc, ◌+◌, ◌-◌, ◌*◌, ◌/◌, ◌%◌, true, false, cond, List, [], ◌∷◌, ◌++◌, ltb, leb, eqb, get_or, Option, None, Some}

-- the digits of n, the last being n % 10; f tells how often the number may be cut by ten
unfoldable pub digits : ℕ → ℕ → List ℕ
digits zero n = (48 + n) ∷ []
digits (suc f) n = elim (ltb n 10) [ true ↦ (48 + n) ∷ [] | false ↦ digits f (n / 10) ++ (48 + n % 10) ∷ [] ]

-- the text of a number
unfoldable pub numeral : ℕ → List ℕ
numeral n = digits n n

-- the digit that a byte stands for, if any
unfoldable pub digit_of : ℕ → Option ℕ
digit_of b = cond (leb 48 b) (cond (leb b 57) (Some (b - 48)) None) None

-- the digit at i; past the end stands 0, which is no digit
unfoldable pub digit_at : List ℕ → ℕ → Option ℕ
digit_at s i = digit_of (get_or s i 0)

-- by cases on what may be there
abbrev pub on_some : {A B : Type 0} → Option A → B → (A → B) → B
on_some None b f = b
on_some (Some x) b f = f x

-- the number of the digits a, b and c, as far as they are digits, up to 255, and how many they are; a leading 0 is a number by itself
unfoldable pub number_of : Option ℕ → Option ℕ → Option ℕ → Option (ℕ × ℕ)
number_of a b c =
    on_some a None
    (λ x. cond (eqb x 0) (Some (0, 1))
    (on_some b (Some (x, 1))
    (λ y. on_some c (Some (x * 10 + y, 2))
    (λ z. cond (ltb 255 (x * 100 + y * 10 + z)) None (Some (x * 100 + y * 10 + z, 3))))))

-- the number at the start of s, and how many bytes it takes
unfoldable pub read_number : List ℕ → Option (ℕ × ℕ)
read_number s = number_of (digit_at s 0) (digit_at s 1) (digit_at s 2)

-- by cases on a number that was read, and how many bytes it took
abbrev pub on_read : {A B : Type 0} → Option (A × ℕ) → B → (A → ℕ → B) → B
on_read None b f = b
on_read (Some x) b f = f x.0 x.1
