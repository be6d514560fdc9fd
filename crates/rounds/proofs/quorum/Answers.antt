-- Not empty, apart from d, and every node satisfied: the three tests of the definition, in their order.
use mathlib.Core.Path.{◌∙◌}
use Rattle.meanings.specs.Table.{nodes, satisfied}
use Rattle.theory.proofs.Tests.{no-nodes, counted_out, as_settled}
use Rattle.rounds.proofs.quorum.Goals as goal

pub returns-then-c-eq0 : goal.returns-then-c-eq0
returns-then-c-eq0 c = no-nodes (nodes c.args.heads.now) (satisfied c.args.heads.now) c.args.d c.args.c c.if-c-eq0.true

pub returns-then-c-d-ne0 : goal.returns-then-c-d-ne0
returns-then-c-d-ne0 c = counted_out (nodes c.args.heads.now) (satisfied c.args.heads.now) c.args.d c.args.c c.if-c-d-ne0.true c.requires

pub returns : goal.returns
returns c =
    c.settled.ensures
    ∙ as_settled (nodes c.args.heads.now) (satisfied c.args.heads.now) c.args.d c.args.c c.if-c-eq0.false c.if-c-d-ne0.false c.requires
