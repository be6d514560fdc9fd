-- What the answer to a check tells of the table: where it gives a size, the table is sound, its nodes are as many as it says, and at
-- most 64.
use mathlib.Core.Path.{◌≡◌, sym, subst}
use mathlib.Core.List.{List}
use Prim.Native.Nat.{ℕ, ◌≤◌}
use Rattle.std.specs.Prelude.{Ok}
use Rattle.meanings.specs.Questions.{check_reply}
use Rattle.answers.specs.declared.Size.{Size}
use Rattle.answers.specs.Said.{checked_says}
use Rattle.tables.proofs.Sound.{sound_table}
use Rattle.faults.proofs.Known.{sound_known}
use Rattle.faults.proofs.Opening.{Passed}

pub checked_past : (t : List ℕ) (s : Size) → checked_says (Ok s) ≡ check_reply t → Passed t s.nodes
checked_past t s says =
    let w = sound_known t s says in
    record {
      checked = w.0;
      nodes_are = w.1;
      few = subst (λ (m : ℕ). m ≤ 64) (sym w.1) (sound_table t w.0).nodes-le;
    }
