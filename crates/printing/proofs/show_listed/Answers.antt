-- The line is made of the reply's numbers, which have 64 bits.
use native.Mathlib.Omega.{arith}
use Prim.Native.Nat.{◌^◌, ◌<◌}
use mathlib.Core.Path.{sym, ap}
use lib.ListN.{length}
use Rattle.printing.proofs.Laws.{stands_as, handed_as}
use Rattle.printing.proofs.Most.{list_most}
use Rattle.printing.proofs.show_listed.Goals as goal

pub show-requires : goal.show-requires
show-requires g c =
    let r = c.args.reply in
    let number : r.number < 2 ^ 64 = omega arith in
    let count : r.count < 2 ^ 64 = omega arith in
    let visits : r.visits < 2 ^ 64 = omega arith in
    let line = c.listed-line.ensures.comes in
    (stands_as _ _ _ _ (sym line) c.requires.0, c.requires.1, omega (arith, ap length line, list_most r number c.args.name count visits))

pub returns : goal.returns
returns g c = handed_as _ _ _ _ _ c.listed-line.ensures.comes c.show.ensures
