-- Each field is written right behind those before it, so that in the end the three stand at the front one after the other.
use native.Mathlib.Omega.{arith}
use Prim.Native.Nat.{ℕ, ◌+◌, ◌≤◌}
use mathlib.Core.List.{List, ◌++◌, append_assoc}
use lib.ListN.{length, length-append}
use Rattle.decimal.proofs.Place.{within, room, next}
use Rattle.lines.specs.Lines.{field_text, threshold_text, last_text, line_text}
use Rattle.lines.proofs.Texts.{length_fields}
use Rattle.lines.proofs.put_line.Goals as goal

-- there is room for each
module _ (l t m : ℕ) (d : List ℕ) (fits : length (line_text l t m) ≤ length d) where
  for_level : length (field_text l) ≤ length d
  for_level = omega (arith, length_fields l t m)

  for_threshold : length (field_text l) + length (threshold_text t) ≤ length d
  for_threshold = omega (arith, length_fields l t m)

  for_members : length (field_text l ++ threshold_text t) + length (last_text m) ≤ length d
  for_members = omega (arith, length_fields l t m, length-append (field_text l) (threshold_text t))

pub put_field-a-requires : goal.put_field-a-requires
put_field-a-requires c = for_level _ _ _ _ c.requires

pub slice_bounds-put_threshold-count : goal.slice_bounds-put_threshold-count
slice_bounds-put_threshold-count c = within _ _ _ _ c.put_field-a.ensures _ (for_threshold _ _ _ _ c.requires)

pub put_threshold-requires : goal.put_threshold-requires
put_threshold-requires c = room _ _ _ _ c.put_field-a.ensures _ (for_threshold _ _ _ _ c.requires)

pub overflow_add-b : goal.overflow_add-b
overflow_add-b c =
    let second = next _ _ _ _ c.put_field-a.ensures _ (for_threshold _ _ _ _ c.requires) _ _ c.put_threshold.ensures in
    omega (arith, second.count, for_members _ _ _ _ c.requires)

pub slice_bounds-put_last-count : goal.slice_bounds-put_last-count
slice_bounds-put_last-count c =
    let second = next _ _ _ _ c.put_field-a.ensures _ (for_threshold _ _ _ _ c.requires) _ _ c.put_threshold.ensures in
    within _ _ _ _ second _ (for_members _ _ _ _ c.requires)

pub put_last-requires : goal.put_last-requires
put_last-requires c =
    let second = next _ _ _ _ c.put_field-a.ensures _ (for_threshold _ _ _ _ c.requires) _ _ c.put_threshold.ensures in
    room _ _ _ _ second _ (for_members _ _ _ _ c.requires)

pub overflow_add-result : goal.overflow_add-result
overflow_add-result c =
    let second = next _ _ _ _ c.put_field-a.ensures _ (for_threshold _ _ _ _ c.requires) _ _ c.put_threshold.ensures in
    let third = next _ _ _ _ second _ (for_members _ _ _ _ c.requires) _ _ c.put_last.ensures in
    let a = c.args in
    omega (arith, third.count, for_members _ _ _ _ c.requires, length-append (field_text a.level ++ threshold_text a.threshold) (last_text a.members))

pub returns : goal.returns
unfolding line_text
returns c =
    let second = next _ _ _ _ c.put_field-a.ensures _ (for_threshold _ _ _ _ c.requires) _ _ c.put_threshold.ensures in
    let third = next _ _ _ _ second _ (for_members _ _ _ _ c.requires) _ _ c.put_last.ensures in
    let a = c.args in
    rw (← append_assoc (field_text a.level) (threshold_text a.threshold) (last_text a.members)) third
