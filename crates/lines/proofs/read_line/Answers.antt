-- Each field is read from where the one before ended, which lies within the text.
use native.Mathlib.Omega.{arith}
use Prim.Native.Nat.{ℕ, ◌+◌, ◌-◌, ◌≤◌}
use mathlib.Core.Path.{sym}
use mathlib.Core.List.{List}
use lib.ListN.{length, take, drop, length-drop}
use Rattle.decimal.proofs.Order.{rest}
use Rattle.lines.proofs.Fields.{field_forth, threshold_forth, last_forth}
use Rattle.lines.proofs.read_line.Goals as goal

-- what lies within what is left lies within the whole
in_rest : (s : List ℕ) (a b : ℕ) → a ≤ length s → b ≤ length (take (length s - a) (drop a s)) → a + b ≤ length s
in_rest s a b h i = let j : b ≤ length (drop a s) = rw (rest s a) at i in omega (arith, length-drop a s)

pub slice_bounds-read_threshold-count : goal.slice_bounds-read_threshold-count
slice_bounds-read_threshold-count c = (field_forth _ _ _ (sym c.in_ok-level.ensures)).within

pub slice_bounds-read_threshold-start : goal.slice_bounds-read_threshold-start
slice_bounds-read_threshold-start c = (field_forth _ _ _ (sym c.in_ok-level.ensures)).within

pub overflow_add-at : goal.overflow_add-at
overflow_add-at c =
    let a = (field_forth _ _ _ (sym c.in_ok-level.ensures)).within in
    omega (arith, in_rest c.args.s.now _ _ a (threshold_forth _ _ _ _ (sym c.in_ok-threshold.ensures)).within)

pub slice_bounds-read_last-count : goal.slice_bounds-read_last-count
slice_bounds-read_last-count c =
    let a = (field_forth _ _ _ (sym c.in_ok-level.ensures)).within in
    in_rest c.args.s.now _ _ a (threshold_forth _ _ _ _ (sym c.in_ok-threshold.ensures)).within

pub slice_bounds-read_last-start : goal.slice_bounds-read_last-start
slice_bounds-read_last-start c =
    let a = (field_forth _ _ _ (sym c.in_ok-level.ensures)).within in
    in_rest c.args.s.now _ _ a (threshold_forth _ _ _ _ (sym c.in_ok-threshold.ensures)).within

pub overflow_add-result : goal.overflow_add-result
overflow_add-result c =
    let a = (field_forth _ _ _ (sym c.in_ok-level.ensures)).within in
    let b = in_rest c.args.s.now _ _ a (threshold_forth _ _ _ _ (sym c.in_ok-threshold.ensures)).within in
    omega (arith, in_rest c.args.s.now _ _ b (last_forth _ _ _ (sym c.in_ok-members.ensures)).within)
