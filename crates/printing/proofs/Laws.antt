-- What stands in a text as two parts stands there one after the other, and two parts that are handed over one after the other are handed
-- over together.
use Prim.Native.Nat.{ℕ, ◌+◌, ◌≤◌}
use native.Mathlib.Omega.{arith}
use native.Mathlib.Nat.{zero-add}
use mathlib.Core.Path.{◌≡◌, refl, sym, ap, ◌∙◌, subst}
use mathlib.Core.Bool.{true, false}
use mathlib.Core.List.{List, [], ◌++◌, append_assoc, append-nil}
use lib.ListN.{length, take, drop, length-append}
use lib.Seq.{take_at}
use Rattle.decimal.specs.Bytes.{Written}
use Rattle.std.specs.Prelude.{Result, Ok, Err, IsErr}
use Rattle.std.specs.declared.io.Error.{Error}
use Rattle.printing.specs.Printing.{Stands, Handed, All, counted_is}

-- what was written at the front is what is handed over
pub front_taken : (w d o : List ℕ) (n : ℕ) → Written w d o n → take n o ≡ w
front_taken w d o n h = rw h.bytes (take_at w (drop (length w) d) n (sym h.count))

-- ---- where a part stands
module _ (text : List ℕ) (at : ℕ) where
  pub stands_as : (u v : List ℕ) → u ≡ v → Stands text at u → Stands text at v
  stands_as u v e s = subst (Stands text at) e s

  pub stands_first : (u v : List ℕ) → Stands text at (u ++ v) → Stands text at u
  stands_first u v s =
      record {
        before = s.before;
        after = v ++ s.after;
        whole = s.whole ∙ ap (λ (x : List ℕ). s.before ++ x) (append_assoc u v s.after);
        place = s.place;
      }

  pub stands_second : (u v : List ℕ) (to : ℕ) → to ≡ at + length u → Stands text at (u ++ v) → Stands text to v
  stands_second u v to e s =
      record {
        before = s.before ++ u;
        after = s.after;
        whole =
            s.whole ∙ ap (λ (x : List ℕ). s.before ++ x) (append_assoc u v s.after) ∙ sym (append_assoc s.before u (v ++ s.after));
        place = omega (arith, e, s.place, length-append s.before u);
      }

pub stands_start : (u v : List ℕ) → Stands (u ++ v) 0 u
stands_start u v = record { before = []; after = v; whole = refl; place = refl }

pub stands_whole : (u : List ℕ) → Stands u 0 u
stands_whole u = record { before = []; after = []; whole = sym (append-nil u); place = refl }

-- ---- what is handed over
-- a write that failed ends it
pub handed_none : (part : List ℕ) (at most : ℕ) (o : Result ℕ Error) → IsErr o → Handed part at most o
unfolding Handed
handed_none part at most (Ok to) e = let z : false ≡ true = e in cc
handed_none part at most (Err x) e = tt

pub handed_up : (part : List ℕ) (at most : ℕ) (o : Result ℕ Error) (to : ℕ) → o ≡ Ok to → Handed part at most o → (to ≡ at + length part) × (to ≤ at + most)
unfolding Handed
handed_up part at most o to e h = subst (Handed part at most) e h

pub handed_more : (u v : List ℕ) (at most to more : ℕ) → (to ≡ at + length u) × (to ≤ at + most) → (o : Result ℕ Error) → Handed v to more o
    → Handed (u ++ v) at (most + more) o
unfolding Handed
handed_more u v at most to more h (Ok end) g = (omega (arith, h.0, g.0, length-append u v), omega (arith, h.1, g.1))
handed_more u v at most to more h (Err e) g = tt

pub handed_as : (u v : List ℕ) (at most : ℕ) (o : Result ℕ Error) → u ≡ v → Handed u at most o → Handed v at most o
handed_as u v at most o e h = subst (λ (x : List ℕ). Handed x at most o) e h

pub all_handed : (u v : List ℕ) (most : ℕ) (o : Result ℕ Error) → u ≡ v → Handed u 0 most o → All v o
unfolding Handed All
all_handed u v most (Ok to) e h = h.0 ∙ zero-add (length u) ∙ ap (length {A = ℕ}) e
all_handed u v most (Err x) e h = tt

pub all_as : (u v : List ℕ) (o : Result ℕ Error) → u ≡ v → All u o → All v o
all_as u v o e h = subst (λ (x : List ℕ). All x o) e h

pub all_none : (text : List ℕ) (o : Result ℕ Error) → IsErr o → All text o
unfolding All
all_none text (Ok to) e = let z : false ≡ true = e in cc
all_none text (Err x) e = tt

-- what is counted of a part is all of it, if it was taken
pub handed_counted : (part : List ℕ) (most : ℕ) (taken : Result (Unit {0}) Error) (n : ℕ) (o : Result ℕ Error) → o ≡ counted_is taken n → n ≡ length part → n ≤ most
    → Handed part 0 most o
unfolding Handed counted_is
handed_counted part most (Ok done) n o e h l = subst (Handed part 0 most) (sym e) (h ∙ sym (zero-add (length part)), omega (arith, l))
handed_counted part most (Err x) n o e h l = subst (Handed part 0 most) (sym e) tt
