-- What a record gives, by how far below the set that is judged it stands.
use native.Mathlib.Omega.{arith}
use mathlib.Core.Path.{◌≡◌, sym, ap, ◌∙◌}
use Prim.Native.Nat.{ℕ, suc, ◌+◌, ◌<◌}
use borrow.Author.Tests.{lt-leb}
use Rattle.meanings.specs.Table.{level}
use Rattle.satisfaction.specs.Judged.{lack, still}
use Rattle.satisfaction.specs.Wanted.{comes}
use Rattle.satisfaction.proofs.Walk.{bump-all, given_first, given_second, given_third, past_outer, past_inner, third_here}
use Rattle.satisfaction.proofs.Wanted.after.Goals as goal

pub returns-then-depth-eq1 : goal.returns-then-depth-eq1
returns-then-depth-eq1 c =
    let t = c.args.t.now in
    let u = c.args.u in
    let k = c.args.above in
    let j = c.args.j in
    let w = c.args.self in
    let at : level t j ≡ suc k = omega (arith, c.level.ensures.reads, c.if-depth-eq1.true, c.requires.1) in
    (rw c.lacking.ensures.reads at (c.enter.ensures (still t u (suc (suc k)) (j + 1)) (still t u (suc k) (j + 1)) (still t u k (j + 1))))
    ∙ sym (given_first t u k j c.level.ensures.checked c.requires.0 w.outer w.inner w.inmost at)

pub returns-then-self-eq0 : goal.returns-then-self-eq0
returns-then-self-eq0 c =
    let w = c.args.self in
    let below : suc c.args.above < level c.args.t.now c.args.j = omega (arith, c.level.ensures.reads, c.if-depth-eq1.false, c.requires.1) in
    rw c.if-self-eq0.true (past_outer c.args.t.now c.args.u c.args.above c.args.j c.level.ensures.checked c.requires.0 w.outer w.inmost below)

pub returns-then-depth-eq2 : goal.returns-then-depth-eq2
returns-then-depth-eq2 c =
    let t = c.args.t.now in
    let u = c.args.u in
    let k = c.args.above in
    let j = c.args.j in
    let w = c.args.self in
    let at : level t j ≡ suc (suc k) = omega (arith, c.level.ensures.reads, c.if-depth-eq2.true, c.requires.1) in
    (rw c.lacking-then-depth-eq2.ensures.reads at (c.enter_inner.ensures (still t u (suc (suc k)) (j + 1)) (still t u (suc k) (j + 1)) (still t u k (j + 1))))
    ∙ sym (given_second t u k j c.level.ensures.checked c.requires.0 w.outer w.inner w.inmost at)

pub returns-then-self-eq0-2 : goal.returns-then-self-eq0-2
returns-then-self-eq0-2 c =
    let w = c.args.self in
    let below : suc (suc c.args.above) < level c.args.t.now c.args.j =
    omega (arith, c.level.ensures.reads, c.if-depth-eq1.false, c.if-depth-eq2.false, c.requires.1) in
    rw c.if-self-eq0-2.true (past_inner c.args.t.now c.args.u c.args.above c.args.j c.level.ensures.checked c.requires.0 w.outer w.inner below)

pub returns-then-lacking-ne0 : goal.returns-then-lacking-ne0
returns-then-lacking-ne0 c =
    let t = c.args.t.now in
    let u = c.args.u in
    let k = c.args.above in
    let j = c.args.j in
    let w = c.args.self in
    let below : suc (suc k) < level t j = omega (arith, c.level.ensures.reads, c.if-depth-eq1.false, c.if-depth-eq2.false, c.requires.1) in
    let some : 0 < lack t u j = omega (arith, c.lacking-2.ensures.reads, c.if-lacking-ne0.true) in
    let same = rw (lt-leb (lack t u j) 0 some) at (third_here t u k j c.level.ensures.checked c.requires.0 below) in
    sym (given_third t u k j c.level.ensures.checked c.requires.0 w.outer w.inner w.inmost below
    ∙ ap (λ (x : ℕ). comes w.outer w.inner w.inmost x (still t u (suc k) (j + 1)) (still t u k (j + 1))) same)

pub returns : goal.returns
returns c =
    let t = c.args.t.now in
    let u = c.args.u in
    let k = c.args.above in
    let j = c.args.j in
    let w = c.args.self in
    let below : suc (suc k) < level t j = omega (arith, c.level.ensures.reads, c.if-depth-eq1.false, c.if-depth-eq2.false, c.requires.1) in
    let none : lack t u j ≡ 0 = sym c.lacking-2.ensures.reads ∙ c.if-lacking-ne0.false in
    let more : still t u (suc (suc k)) j ≡ suc (still t u (suc (suc k)) (j + 1)) =
    (rw none at (third_here t u k j c.level.ensures.checked c.requires.0 below)) ∙ bump-all 0 (still t u (suc (suc k)) (j + 1)) in
    c.gain_inmost.ensures (still t u (suc (suc k)) (j + 1)) (still t u (suc k) (j + 1)) (still t u k (j + 1))
    ∙ sym (given_third t u k j c.level.ensures.checked c.requires.0 w.outer w.inner w.inmost below
    ∙ ap (λ (x : ℕ). comes w.outer w.inner w.inmost x (still t u (suc k) (j + 1)) (still t u k (j + 1))) more)
