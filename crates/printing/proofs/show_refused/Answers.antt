-- The report is that one line, of the reply's numbers, which have 64 bits.
use native.Mathlib.Omega.{arith}
use Prim.Native.Nat.{◌^◌, ◌<◌}
use mathlib.Core.Path.{ap, ◌∙◌}
use lib.ListN.{length}
use Rattle.printing.proofs.Laws.{all_handed}
use Rattle.printing.proofs.Most.{refused_most}
use Rattle.printing.proofs.show_refused.Goals as goal

pub print-requires : goal.print-requires
print-requires g c =
    let r = c.args.r in
    let number : r.number < 2 ^ 64 = omega arith in
    let place : r.place < 2 ^ 64 = omega arith in
    (omega arith, omega (arith, ap length c.refused-line.ensures.comes, refused_most r number place))

pub returns : goal.returns
returns g c = all_handed _ _ _ _ (c.refused-line.ensures.comes ∙ c.requires) c.print.ensures
