-- One id: what is written is read back, where no digit follows, and what is read is an id within its bounds, as it is written.
use Prim.Native.Nat.{ℕ, ◌≤◌}
use native.Mathlib.Omega.{arith}
use native.Mathlib.Nat.{add-zero}
use mathlib.Core.Path.{◌≡◌, refl}
use mathlib.Core.Bool.{cond}
use mathlib.Core.Logic.{⊎_elim}
use mathlib.Core.List.{List, ◌++◌}
use borrow.Author.Tests.{lt-ltb, le-ltb}
use lib.Dec.{ltb}
use lib.ListN.{length, get_or, take}
use lib.Seq.{get_or-append-add}
use Rattle.std.proofs.Common.{Option, Some, None}
use Rattle.decimal.specs.Decimal.{numeral, digit_at, read_number, on_read}
use Rattle.decimal.proofs.Order.{lt-or-le}
use Rattle.decimal.proofs.Round.{read_same, read_written, written_read}
use Rattle.members.specs.Members.{read_id}

-- what stands behind an id
pub seam : (i : ℕ) (t : List ℕ) → get_or (numeral i ++ t) (length (numeral i)) 0 ≡ get_or t 0 0
seam i t = rw add-zero at (get_or-append-add (numeral i) t 0 0)

pub read_back : (i : ℕ) (t : List ℕ) (least : ℕ) → least ≤ i → i ≤ 63 → digit_at t 0 ≡ None
    → read_id (numeral i ++ t) least ≡ Some (i, length (numeral i))
unfolding read_id
read_back i t least low high stop =
    let b : i ≤ 255 = omega arith in
    rw (read_written i t b stop) (simp (le-ltb i least low, le-ltb 63 i high))

-- the first k bytes of t are the id v
pub record Took (t : List ℕ) (least v k : ℕ) : Type 0 where
  pub low : least ≤ v
  pub high : v ≤ 63
  pub text : take k t ≡ numeral v
  pub within : k ≤ length t
  pub some : 1 ≤ k

by_number : (t : List ℕ) (least v k : ℕ) (x : Option (ℕ × ℕ)) → read_number t ≡ x
    → on_read {B = Option (ℕ × ℕ)} x None (λ w j. cond (ltb w least) None (cond (ltb 63 w) None (Some (w, j)))) ≡ Some (v, k) → Took t least v k
by_number t least v k None r e = absurd (cc)
by_number t least v k (Some (w, j)) r e =
    ⊎_elim
    (λ a. let z : None ≡ Some (v, k) = simp (lt-ltb w least a) at e in absurd (cc))
    (λ a.
    ⊎_elim
    (λ b. let z : None ≡ Some (v, k) = simp (le-ltb w least a, lt-ltb 63 w b) at e in absurd (cc))
    (λ b.
    let p = read_same w v j k (simp (le-ltb w least a, le-ltb 63 w b) at e) in
    let o = written_read t w j r in
    rw (← p.0, ← p.1) (record { low = a; high = b; text = o.text; within = o.within; some = o.some }))
    (lt-or-le 63 w))
    (lt-or-le w least)

pub took : (t : List ℕ) (least v k : ℕ) → read_id t least ≡ Some (v, k) → Took t least v k
unfolding read_id
took t least v k e = by_number t least v k (read_number t) refl e
