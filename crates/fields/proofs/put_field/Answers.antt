-- The byte goes right behind the text.
use native.Mathlib.Omega.{arith}
use mathlib.Core.List.{[], ◌∷◌}
use lib.ListN.{length-append}
use Rattle.decimal.proofs.Place.{within_byte, next_byte}
use Rattle.fields.specs.Fields.{field_text, ended}
use Rattle.fields.proofs.put_field.Goals as goal

pub put_text-k-requires : goal.put_text-k-requires
unfolding ended
put_text-k-requires c = let a = c.args in omega (arith, c.requires, length-append (field_text a.field) (a.end ∷ []))

pub bounds-out-k : goal.bounds-out-k
unfolding ended
bounds-out-k c =
    let a = c.args in
    within_byte _ _ _ _ c.put_text-k.ensures (omega (arith, c.requires, length-append (field_text a.field) (a.end ∷ [])))

pub returns : goal.returns
unfolding ended
returns c =
    let a = c.args in
    next_byte _ _ _ _ c.put_text-k.ensures (omega (arith, c.requires, length-append (field_text a.field) (a.end ∷ []))) _
