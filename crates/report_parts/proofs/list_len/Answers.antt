-- The length of the list's line and those of its sets.
use native.Mathlib.Omega.{arith}
use Prim.Native.Nat.{ℕ}
use mathlib.Core.Path.{ap}
use lib.ListN.{length, length-append}
use Rattle.replies.specs.Shows.{told}
use Rattle.words.specs.Words.{word_text}
use Rattle.report_lines.specs.Lines.{list_line, set_lines}
use Rattle.report_parts.specs.Parts.{list_text, text_of}
use Rattle.report_parts.proofs.list_len.Goals as goal

pub returns : goal.returns
unfolding list_text text_of
returns c =
    let l = c.args.list.now in
    record {
      long =
          omega (
            arith,
            c.line_len.ensures.long,
            c.sets_len.ensures.long,
            ap (length {A = ℕ}) c.listed-line.ensures.comes,
            length-append (list_line (word_text l.name) (told l.reply)) (set_lines (word_text l.letter) l.sets.now),
          );
      within = omega (arith, c.line_len.ensures.within, c.sets_len.ensures.within);
    }
