-- The set lies within the table, whose words are two a record.
use mathlib.Core.Path.{ap, ◌∙◌}
use native.Mathlib.Omega.{arith}
use lib.ListN.{length}
use Rattle.meanings.specs.Table.{records}
use Rattle.tables.proofs.Sound.{sound_table}
use Rattle.plans.specs.Alike.{set_of}
use Rattle.plans.proofs.set_of.Goals as goal

pub overflow_mul-start : goal.overflow_mul-start
overflow_mul-start c = let m = (sound_table c.args.heads.now c.head-start.ensures.checked).records-le in omega arith

pub overflow_mul-end : goal.overflow_mul-end
overflow_mul-end c = let m = (sound_table c.args.heads.now c.head-start.ensures.checked).records-le in omega arith

pub offset_bounds-words-start : goal.offset_bounds-words-start
offset_bounds-words-start c = let m = (sound_table c.args.heads.now c.head-start.ensures.checked).records-le in omega arith

pub slice_bounds-result-end : goal.slice_bounds-result-end
unfolding records
slice_bounds-result-end c = let e = ap length (c.words.ensures.reads ∙ c.table.ensures.reads) in omega arith

pub returns : goal.returns
unfolding set_of
returns c =
    record {
      checked = c.head-start.ensures.checked;
      reads = rw (c.head-start.ensures.reads.0, c.set_end-end.ensures.0, c.words.ensures.reads, c.table.ensures.reads);
    }
