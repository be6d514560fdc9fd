-- The verdict's line stands right behind that of the nodes.
use native.Mathlib.Omega.{arith}
use Prim.Native.Nat.{ℕ, ◌+◌, ◌^◌, ◌≤◌, ◌<◌}
use mathlib.Core.Path.{◌≡◌, sym, ap, ◌∙◌, subst}
use mathlib.Core.List.{List, ◌++◌}
use lib.ListN.{length}
use Rattle.sets.specs.Sets.{nobody}
use Rattle.meanings.specs.Questions.{check_reply, verdict_reply}
use Rattle.fields.specs.Fields.{line_of}
use Rattle.replies.specs.Shows.{Shows}
use Rattle.report_lines.specs.Lines.{nodes_line, verdict_line}
use Rattle.report_lines.proofs.Told.{nodes-told, verdict-told}
use Rattle.report.specs.Report.{head_part, minimal_part, blocking_part, report_on, allowance}
use Rattle.printing.specs.Printing.{Stands}
use Rattle.printing.proofs.Laws.{stands_as, stands_first, stands_second, stands_start, handed_none, handed_up, handed_more, handed_as}
use Rattle.printing.proofs.Most.{nodes_most, verdict_most}
use Rattle.printing.proofs.show_head.Goals as goal

-- the two lines
abbrev first : List ℕ → List ℕ
first t = nodes_line (check_reply t)

abbrev second : List ℕ → List ℕ
second t = verdict_line (verdict_reply t nobody allowance)

stands_head : (t : List ℕ) → Stands (report_on t) 0 (first t ++ second t)
unfolding report_on head_part
stands_head t = stands_start (first t ++ second t) (minimal_part t ++ blocking_part t)

pub show-requires : goal.show-requires
show-requires g c =
    let t = c.args.table.now in
    let line : line_of c.nodes-nodes.result ≡ first t =
    c.nodes-nodes.ensures.comes ∙ nodes-told c.reply.result _ (subst (Shows c.reply.result) c.check_table.ensures c.reply.ensures) in
    let r = c.reply.result in
    let nodes : r.nodes < 2 ^ 64 = omega arith in
    let records : r.records < 2 ^ 64 = omega arith in
    let fits : length (line_of c.nodes-nodes.result) ≤ 1092 = omega (arith, ap length c.nodes-nodes.ensures.comes, nodes_most r nodes records) in
    (stands_as (report_on t) 0 _ _ (sym line) (stands_first (report_on t) 0 (first t) (second t) (stands_head t)), omega arith, fits)

pub returns-in_err-to : goal.returns-in_err-to
returns-in_err-to g c = handed_none _ _ _ _ c.from_residual.ensures.0

pub show-requires-2 : goal.show-requires-2
show-requires-2 g c =
    let t = c.args.table.now in
    let line : line_of c.nodes-nodes.result ≡ first t =
    c.nodes-nodes.ensures.comes ∙ nodes-told c.reply.result _ (subst (Shows c.reply.result) c.check_table.ensures c.reply.ensures) in
    let shown : (c.in_ok-to.to ≡ 0 + length (first t)) × (c.in_ok-to.to ≤ 0 + 1092) =
    handed_up (first t) 0 1092 c.show.result c.in_ok-to.to c.in_ok-to.was (handed_as _ _ _ _ _ line c.show.ensures) in
    let next : line_of c.verdict-line.result ≡ second t =
    c.verdict-line.ensures.comes ∙ verdict-told c.reply-2.result _ (subst (Shows c.reply-2.result) c.intersect-verdict.ensures.told c.reply-2.ensures) in
    let r = c.reply-2.result in
    let number : r.number < 2 ^ 64 = omega arith in
    let visits : r.visits < 2 ^ 64 = omega arith in
    let fits : length (line_of c.verdict-line.result) ≤ 1092 = omega (arith, ap length c.verdict-line.ensures.comes, verdict_most r number visits) in
    (stands_as (report_on t) _ _ _ (sym next) (stands_second (report_on t) 0 (first t) (second t) _ shown.0 (stands_head t)), omega (arith, shown.1), fits)

pub returns : goal.returns
unfolding head_part
returns g c =
    let t = c.args.table.now in
    let line : line_of c.nodes-nodes.result ≡ first t =
    c.nodes-nodes.ensures.comes ∙ nodes-told c.reply.result _ (subst (Shows c.reply.result) c.check_table.ensures c.reply.ensures) in
    let shown : (c.in_ok-to.to ≡ 0 + length (first t)) × (c.in_ok-to.to ≤ 0 + 1092) =
    handed_up (first t) 0 1092 c.show.result c.in_ok-to.to c.in_ok-to.was (handed_as _ _ _ _ _ line c.show.ensures) in
    let next : line_of c.verdict-line.result ≡ second t =
    c.verdict-line.ensures.comes ∙ verdict-told c.reply-2.result _ (subst (Shows c.reply-2.result) c.intersect-verdict.ensures.told c.reply-2.ensures) in
    handed_more (first t) (second t) 0 1092 _ 1092 shown c.show-2.result (handed_as _ _ _ _ _ next c.show-2.ensures)
