-- The window grows by what is read; its first line is taken, and it begins behind that.
use native.Mathlib.Omega.{arith}
use Prim.Native.Nat.{◌≤◌}
use mathlib.Core.Path.{refl, sym, ◌∙◌}
use lib.ListN.{length}
use Rattle.intake.proofs.Laws.{at_first, read_on, line_in, left_over, told-all, told-surplus, told_malformed, one_line}
use Rattle.lines.proofs.Round.{written_read}
use Rattle.intake.proofs.hear.Goals as goal

pub loop-window-init : goal.loop-window-init
loop-window-init g c = record { whole = refl; held = omega arith; few = omega arith; read = omega arith; taken = at_first c.args.words.now }

pub put_record-requires : goal.put_record-requires
put_record-requires g c = let f = written_read _ _ _ (sym c.in-Some.ensures) in (omega arith, f.level, f.threshold)

pub shift-requires : goal.shift-requires
shift-requires g c =
    ((line_in c.in_ok-window.window.count c.widen.new.buf _ _ (omega (arith, c.in_ok-window.ensures)) c.in-Some.ensures).1, omega (arith, c.in_ok-window.ensures))

pub overflow_sub-window : goal.overflow_sub-window
overflow_sub-window g c = (line_in c.in_ok-window.window.count c.widen.new.buf _ _ (omega (arith, c.in_ok-window.ensures)) c.in-Some.ensures).1

pub loop-window-preserved : goal.loop-window-preserved
loop-window-preserved g c =
    let l = c.loop-window in
    let w = c.in_ok-window.window in
    let a = c.widen.new.buf in
    let x = c.in-Some in
    let u = read_on l.words l.buf a l.window.count l.r l.nought w l.invariant.taken c.in_ok-window.ensures in
    let fits : w.count ≤ length a = omega (arith, c.in_ok-window.ensures) in
    let f = line_in w.count a x.line x.used fits x.ensures in
    let next = one_line _ _ _ _ u.0 x.line x.used (omega arith) (omega arith) (sym x.ensures) in
    record {
      whole = omega (arith, c.shift.ensures.1);
      held = omega arith;
      few = omega arith;
      read = omega arith;
      taken = rw (c.first_nought-nought.ensures, c.put_record.ensures, c.shift.ensures.0, ← left_over a x.used w.count f.1) next;
    }

pub returns-then-window-eq0 : goal.returns-then-window-eq0
returns-then-window-eq0 g c =
    let l = c.loop-window in
    let w = c.in_ok-window.window in
    let u = read_on l.words l.buf c.widen.new.buf l.window.count l.r l.nought w l.invariant.taken c.in_ok-window.ensures in
    told-all _ _ _ _ u.0 w.ended (u.1 ∙ c.if-window-eq0.true) (λ e. omega (arith, c.in_ok-window.ensures.4 e)) (omega arith)

pub returns-then-r-eq256 : goal.returns-then-r-eq256
returns-then-r-eq256 g c =
    let l = c.loop-window in
    let w = c.in_ok-window.window in
    let u = read_on l.words l.buf c.widen.new.buf l.window.count l.r l.nought w l.invariant.taken c.in_ok-window.ensures in
    told-surplus _ _ _ _ u.0 w.ended (omega (arith, u.1)) c.if-r-eq256.true

pub returns-in_default : goal.returns-in_default
returns-in_default g c =
    let l = c.loop-window in
    let w = c.in_ok-window.window in
    let u = read_on l.words l.buf c.widen.new.buf l.window.count l.r l.nought w l.invariant.taken c.in_ok-window.ensures in
    told_malformed _ _ _ _ u.0 w.ended (omega (arith, u.1)) (omega arith) (sym c.in_default.ensures) (λ e. omega (arith, c.in_ok-window.ensures.4 e))
