-- The record of the next node, or the end of the table, is where the set ends.
use mathlib.Core.Path.{◌≡◌, sym, ap, ◌∙◌}
use native.Mathlib.Numerals.{add-one}
use native.Mathlib.Omega.{arith}
use Rattle.meanings.specs.Table.{records, nodes, head_of}
use Rattle.tables.proofs.Sound.{sound_table}
use Rattle.plans.specs.Alike.{set_end}
use Rattle.plans.proofs.Written.{bounds, last_end, next_end}
use Rattle.plans.proofs.set_end.Goals as goal

pub overflow_add-v : goal.overflow_add-v
overflow_add-v c = let m = (sound_table c.args.heads.now c.table-t.ensures.checked).nodes-le in omega arith

pub returns-then-v-nodes : goal.returns-then-v-nodes
returns-then-v-nodes c =
    let b = bounds c.args.heads.now c.args.v c.requires in
    let n = ap nodes c.table-t.ensures.reads in
    let e = next_end c.args.heads.now c.args.v (omega arith) in
    let h : c.head.result ≡ set_end c.args.heads.now c.args.v = c.head.ensures.reads.0 ∙ ap (head_of c.args.heads.now) (add-one c.args.v) ∙ sym e in
    (h, omega arith, omega arith)

pub returns-else-v-nodes : goal.returns-else-v-nodes
returns-else-v-nodes c =
    let b = bounds c.args.heads.now c.args.v c.requires in
    let n = ap nodes c.table-t.ensures.reads in
    let r = ap records c.table-t.ensures.reads in
    let e = last_end c.args.heads.now c.args.v (omega arith) in
    let h : c.records.result ≡ set_end c.args.heads.now c.args.v = omega arith in
    (h, omega arith, omega arith)
