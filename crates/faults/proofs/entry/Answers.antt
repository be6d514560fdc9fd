-- The two tests are those of the definition, in its order; the nodes of a table without any of 2 to 5 are 64 at most.
use mathlib.Core.Path.{sym, ap, ◌∙◌}
use mathlib.Core.Bool.{not}
use native.Mathlib.Omega.{arith}
use Rattle.tables.proofs.Sound.{shapes_nodes}
use Rattle.faults.proofs.Laws.{told, meets_6, meets_7, well_entered, strangers_are, above_entries, within-entries}
use Rattle.faults.proofs.entry.Goals as goal

pub inside-requires : goal.inside-requires
inside-requires c = omega (arith, shapes_nodes c.args.t.now c.requires.2, c.requires.1)

pub returns-then-not-inside : goal.returns-then-not-inside
returns-then-not-inside c =
    let t = c.args.t.now in
    let r = c.args.r in
    told (meets_6 t r (sym (strangers_are t r c.members.result c.args.nodes c.members.ensures.0 c.requires.1) ∙ ap not (sym c.if-not-inside.ensures)))

pub returns-then-entries-threshold : goal.returns-then-entries-threshold
returns-then-entries-threshold c =
    let t = c.args.t.now in
    let r = c.args.r in
    let known = sym (strangers_are t r c.members.result c.args.nodes c.members.ensures.0 c.requires.1) ∙ ap not (sym c.if-not-inside.ensures) in
    told (meets_7 t r known (above_entries t r (omega (arith, c.if-entries-threshold.true, c.entries.ensures, c.threshold.ensures.0))))

pub returns : goal.returns
returns c =
    let t = c.args.t.now in
    let r = c.args.r in
    let known = sym (strangers_are t r c.members.result c.args.nodes c.members.ensures.0 c.requires.1) ∙ ap not (sym c.if-not-inside.ensures) in
    well_entered t r known (within-entries t r (omega (arith, c.if-entries-threshold.false, c.entries.ensures, c.threshold.ensures.0)))
