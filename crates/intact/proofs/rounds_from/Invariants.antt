-- The rounds from here on, after the visits so far, answer what the rounds from the start do. Each round leaves fewer nodes, so they end.
use mathlib.Core.Path.{◌≡◌}
use Prim.Native.Nat.{◌^◌, ◌<◌}
use Rattle.sets.specs.Sets.{size}
use Rattle.meanings.specs.Table.{nodes}
use Rattle.intact.specs.Rounds.{within, rounds_of}
use Rattle.intact.proofs.rounds_from.Given as goal

abbrev pub invariant-loop-turn : goal.invariant-loop-turn
invariant-loop-turn l =
    record {
      inside : l.left.set < 2 ^ nodes l.plan;
      same : within l.allowance l.left.visits (rounds_of l.plan l.left.set) ≡ within l.allowance l.fn.from.visits (rounds_of l.plan l.fn.from.set);
    }

abbrev pub decreases-loop-turn : goal.decreases-loop-turn
decreases-loop-turn l = size (nodes l.plan) l.left.set
