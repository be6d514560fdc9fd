-- The lengths of the two lines.
use native.Mathlib.Omega.{arith}
use Prim.Native.Nat.{ℕ}
use mathlib.Core.Path.{ap}
use lib.ListN.{length, length-append}
use Rattle.replies.specs.Shows.{told}
use Rattle.report_lines.specs.Lines.{nodes_line, verdict_line}
use Rattle.report_parts.specs.Parts.{head_text}
use Rattle.report_parts.proofs.head_len.Goals as goal

pub returns : goal.returns
unfolding head_text
returns c =
    let a = c.args in
    let n = c.nodes-nodes.ensures.comes in
    let w = c.verdict-verdict.ensures.comes in
    record {
      long =
          omega (
            arith,
            c.line_len.ensures.long,
            c.line_len-2.ensures.long,
            ap (length {A = ℕ}) n,
            ap (length {A = ℕ}) w,
            length-append (nodes_line (told a.c)) (verdict_line (told a.v)),
          );
      within = omega (arith, c.line_len.ensures.within, c.line_len-2.ensures.within);
    }
