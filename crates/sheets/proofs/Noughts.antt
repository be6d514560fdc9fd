-- The first line whose threshold is a written 0 is one of the lines that were taken, so it has a record, at which the check finds 5. So where the check
-- finds nothing there is no such line.
use Prim.Native.Nat.{ℕ, zero, suc, ◌+◌, ◌-◌, ◌*◌, ◌≤◌, ◌<◌}
use native.Mathlib.Omega.{arith}
use mathlib.Core.Path.{◌≡◌, sym, ◌∙◌}
use mathlib.Core.Bool.{Bool, true, false, cond}
use mathlib.Core.Logic.{⊎_elim}
use mathlib.Core.List.{List, ◌∷◌}
use lib.ListN.{length, drop}
use Rattle.decimal.proofs.Order.{lt-or-le}
use Rattle.meanings.specs.Table.{records}
use Rattle.meanings.specs.Faults.{sound, check_lines}
use Rattle.tables.proofs.Sound.{lines_none}
use Rattle.lines.specs.Lines.{given, is_nought}
use Rattle.sheets.specs.Sheets.{words, earlier, take_lines, sheet_lines}
use Rattle.sheets.proofs.Taking.{one_too_many}
use Rattle.sheets.proofs.Round.{NextRead, next_read, Ended, ended, never}

-- line x, if it is there, is one of those from `line` on whose records are w
abbrev Among : (line : ℕ) (w : List ℕ) (x : ℕ) → Type 0
Among line w x = 0 < x → (line ≤ x) × (2 * suc x ≤ 2 * line + length w)

-- it is the next line, or one of those that follow
earliest : (z : Bool) (line c m : ℕ) (rest : List ℕ) (y : ℕ) → Among (suc line) rest y → Among line (c ∷ m ∷ rest) (earlier (cond z line 0) y)
earliest true zero c m rest y h p = let q = h p in omega arith
earliest true (suc line) c m rest y h p = omega arith
earliest false line c m rest y h p = let q = h p in omega arith

one_line : (left line : ℕ) (s w : List ℕ) (x : ℕ) (n : NextRead left line s w x) → Among (suc line) n.rest n.later → Among line w x
one_line left line s w x n h =
    let l = n.read in
    rw (n.put, n.first) (earliest (is_nought l.threshold) line (given l.threshold + 256 * l.level) l.members n.rest n.later h)

none : (line : ℕ) (s w : List ℕ) (x : ℕ) → Ended s w x → Among line w x
none line s w x e p = absurd (omega (arith, e.no_nought))

among_lines : (left line : ℕ) (s w : List ℕ) (x : ℕ) → take_lines left line s ≡ words w x → Among line w x
among_lines zero line s w x e =
    ⊎_elim (λ h. never 1 257 w x (sym (one_too_many line s h) ∙ e)) (λ h. none line s w x (ended 0 line s w x e h)) (lt-or-le 0 (length s))
among_lines (suc left) line s w x e =
    ⊎_elim
    (λ h.
    let n = next_read left line s w x e h in
    one_line left line s w x n (among_lines left (suc line) (drop n.k s) n.rest n.later n.lines))
    (λ h. none line s w x (ended (suc left) line s w x e h))
    (lt-or-le 0 (length s))

pub none_written : (s w : List ℕ) (x : ℕ) → sheet_lines s ≡ words w x → check_lines x w ≡ sound → x ≡ 0
unfolding sheet_lines records
none_written s w x e c =
    ⊎_elim
    (λ h. let a = among_lines 256 1 s w x e h in absurd (lines_none w x c (x - 1) (omega arith) (omega arith)))
    (λ h. omega arith)
    (lt-or-le 0 x)
