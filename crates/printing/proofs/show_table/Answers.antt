-- Each part stands right behind those before it, and all of them are the report on the sheet.
use native.Mathlib.Omega.{arith}
use Prim.Native.Nat.{ℕ, ◌+◌, ◌≤◌}
use mathlib.Core.Path.{◌≡◌}
use mathlib.Core.List.{List, ◌++◌}
use lib.ListN.{length}
use Rattle.report.specs.Report.{head_part, minimal_part, blocking_part, report_on}
use Rattle.printing.specs.Printing.{Stands}
use Rattle.printing.proofs.Laws.{stands_first, stands_second, stands_whole, handed_up, handed_more, all_handed, all_none}
use Rattle.printing.proofs.show_table.Goals as goal

stands_all : (t : List ℕ) → Stands (report_on t) 0 (head_part t ++ (minimal_part t ++ blocking_part t))
unfolding report_on
stands_all t = stands_whole (head_part t ++ (minimal_part t ++ blocking_part t))

pub returns-in_err-to : goal.returns-in_err-to
returns-in_err-to g c = all_none _ _ c.from_residual.ensures.0

pub show_minimal-requires : goal.show_minimal-requires
show_minimal-requires g c =
    let t = c.args.table.now in
    let head : (c.in_ok-to.to ≡ 0 + length (head_part t)) × (c.in_ok-to.to ≤ 0 + 2184) =
    handed_up (head_part t) 0 2184 c.show_head.result c.in_ok-to.to c.in_ok-to.was c.show_head.ensures in
    (stands_first _ _ (minimal_part t) (blocking_part t) (stands_second _ 0 (head_part t) (minimal_part t ++ blocking_part t) _ head.0 (stands_all t)), omega (arith, head.1))

pub returns-in_err-behind : goal.returns-in_err-behind
returns-in_err-behind g c = all_none _ _ c.from_residual-in_err-behind.ensures.0

pub show_blocking-requires : goal.show_blocking-requires
show_blocking-requires g c =
    let t = c.args.table.now in
    let head : (c.in_ok-to.to ≡ 0 + length (head_part t)) × (c.in_ok-to.to ≤ 0 + 2184) =
    handed_up (head_part t) 0 2184 c.show_head.result c.in_ok-to.to c.in_ok-to.was c.show_head.ensures in
    let minimal : (c.in_ok-behind.behind ≡ c.in_ok-to.to + length (minimal_part t)) × (c.in_ok-behind.behind ≤ c.in_ok-to.to + 1119300) =
    handed_up (minimal_part t) c.in_ok-to.to 1119300 c.show_minimal.result c.in_ok-behind.behind c.in_ok-behind.was c.show_minimal.ensures in
    (stands_second _ _ (minimal_part t) (blocking_part t) _ minimal.0 (stands_second _ 0 (head_part t) (minimal_part t ++ blocking_part t) _ head.0 (stands_all t)), omega (arith, head.1, minimal.1))

pub returns : goal.returns
unfolding report_on
returns g c =
    let t = c.args.table.now in
    let head : (c.in_ok-to.to ≡ 0 + length (head_part t)) × (c.in_ok-to.to ≤ 0 + 2184) =
    handed_up (head_part t) 0 2184 c.show_head.result c.in_ok-to.to c.in_ok-to.was c.show_head.ensures in
    let minimal : (c.in_ok-behind.behind ≡ c.in_ok-to.to + length (minimal_part t)) × (c.in_ok-behind.behind ≤ c.in_ok-to.to + 1119300) =
    handed_up (minimal_part t) c.in_ok-to.to 1119300 c.show_minimal.result c.in_ok-behind.behind c.in_ok-behind.was c.show_minimal.ensures in
    all_handed (head_part t ++ (minimal_part t ++ blocking_part t)) _ 2240784 _ c.requires
    (handed_more (head_part t) (minimal_part t ++ blocking_part t) 0 2184 _ 2238600 head c.show_blocking.result
    (handed_more (minimal_part t) (blocking_part t) _ 1119300 _ 1119300 minimal c.show_blocking.result c.show_blocking.ensures))
