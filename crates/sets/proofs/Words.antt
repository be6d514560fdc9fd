-- `1 << i` at 64 bits.
use mathlib.Core.Path.{◌≡◌, ap, ◌∙◌}
use Prim.Native.Nat.{ℕ, ◌*◌, ◌%◌, ◌^◌, ◌<◌}
use native.Mathlib.Nat.{one-mul, mod-eq_of_lt}
use lib.Pow.{pow-lt}

pub shl_one : (i : ℕ) → i < 64 → (1 * 2 ^ i) % 2 ^ 64 ≡ 2 ^ i
shl_one i h = ap (λ (n : ℕ). n % 2 ^ 64) (one-mul (2 ^ i)) ∙ mod-eq_of_lt (pow-lt h)
