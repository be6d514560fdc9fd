-- Words that are counted are the table, and any other answer gives its line.
use Prim.Native.Nat.{ℕ}
use mathlib.Core.Path.{sym, ◌∙◌, subst}
use mathlib.Core.List.{List}
use Rattle.report_lines.proofs.Told.{refused-told}
use Rattle.printing.specs.Printing.{All}
use Rattle.printing.proofs.From.{from_sheet, from-refused, from_words, words_sheet}
use Rattle.printing.proofs.show_read.Goals as goal

pub show_refused-requires : goal.show_refused-requires
show_refused-requires g c =
    refused-told c.reply.result _ c.reply.ensures ∙ sym (from-refused c.args.read c.args.words.now _ c.in_default.is)

pub returns-in_default : goal.returns-in_default
returns-in_default g c =
    λ w. subst (λ (x : List ℕ). All x c.show_refused.result) (from_sheet c.args.read c.args.words.now w) c.show_refused.ensures

pub show_table-requires : goal.show_table-requires
show_table-requires g c = from_words c.args.words.now c.in-Ok.count

pub returns : goal.returns
returns g c =
    λ w. subst (λ (x : List ℕ). All x c.show_table.result) (words_sheet c.args.read c.args.words.now w c.in-Ok.count c.in-Ok.is) c.show_table.ensures
