-- From a walk of the whole tree to the promise: what it lists stands at the front of the lent list, copied from a list that holds it, or written
-- there by a walk.
use mathlib.Core.Path.{◌≡◌, refl, sym, ap, ap₂, ◌∙◌, subst}
use mathlib.Core.List.{List, ◌++◌}
use Prim.Native.Nat.{ℕ, ◌+◌, ◌≤◌}
use native.Mathlib.Nat.{zero-add}
use native.Mathlib.Omega.{arith}
use borrow.Author.Tests.{le-leb, le-ltb}
use lib.ListN.{length, take, drop}
use lib.Seq.{sets, sets-eq, take-append_seam}
use Rattle.std.specs.Prelude.{Result, Ok}
use Rattle.sets.specs.Sets.{nobody, everyone}
use Rattle.meanings.specs.Table.{nodes, satisfied}
use Rattle.meanings.specs.Trees.{Tree, Listing, list}
use Rattle.meanings.specs.Replies.{Reply, Lent}
use Rattle.meanings.specs.Questions.{list_says, list_puts}
use Rattle.answers.specs.declared.Listed.{Listed}
use Rattle.answers.specs.declared.Refusal.{Refusal}
use Rattle.answers.specs.Said.{listed_says, sets_say}
use Rattle.listing_visits.specs.declared.Sought.{Sought}
use Rattle.listing_visits.specs.Visits.{tree_at}
use Rattle.quorum_visits.specs.declared.Visit.{Visit}
use Rattle.listing_walk.specs.Walked.{answered, Walked}
use Rattle.listing_walk.proofs.Laws.{Told, told}
use Rattle.lists.specs.Lists.{tree_of}

-- the tree below a visit that has no node chosen and all open is the whole tree
pub whole_tree : (t : List ℕ) (sought : Sought) (a : Visit) → a.c ≡ nobody → a.r ≡ everyone (nodes t) → tree_at (nodes t) (satisfied t) sought a.c a.r ≡ tree_of t sought
whole_tree t sought a e f = ap₂ (λ (x y : ℕ). tree_at (nodes t) (satisfied t) sought x y) e f

-- a walk that answers x, whose sets have room
module _ (tree : Tree ℕ) (allowance : ℕ) (before : List ℕ) (x : Listed) (says : Ok x ≡ answered allowance 0 0 (list tree)) (fits : x.count ≤ length before) where
  abbrev own : List ℕ
  own = list_puts (list tree)

  abbrev Front : List ℕ → Result Listed Refusal → Type 0
  Front after a = Lent (listed_says a) (list_says allowance (length before) (list tree)) own before after

  known : Told (list tree) allowance 0 0 x
  known = told allowance 0 0 (list tree) x says

  counted : x.count ≡ length own
  counted = known.counted ∙ zero-add (length known.finds) ∙ ap (λ (l : Listing ℕ). length (list_puts l)) (sym known.same)

  told_so : list_says allowance (length before) (list tree) ≡ sets_say x
  told_so =
      let c : x.count ≡ length known.finds = known.counted ∙ zero-add (length known.finds) in
      let v : x.visits ≡ known.steps = known.visited ∙ zero-add known.steps in
      let m = known.enough in
      let few : known.steps ≤ allowance = omega arith in
      let room : length known.finds ≤ length before = omega arith in
      rw (known.same, le-leb known.steps allowance few, le-ltb (length before) (length known.finds) room, ← c, ← v)

  -- 0, with the sets at the front
  in_front : (after : List ℕ) → after ≡ own ++ drop (length own) before → Front after (Ok x)
  in_front after e = subst (λ (r : Reply). Lent (sets_say x) r own before after) (sym told_so) (record { answers = refl; holds = e })

  -- copied from a list that holds them
  pub copied : (room kept after : List ℕ) → x.count ≤ length room → kept ≡ sets room 0 own → after ≡ take x.count kept ++ drop x.count before → Front after (Ok x)
  copied room kept after h k e =
      let c = counted in
      let z = zero-add (length own) in
      let front : kept ≡ own ++ drop (0 + length own) room = k ∙ sets-eq own room 0 (omega arith) in
      in_front after
      (e
      ∙ ap (λ (i : ℕ). take i kept ++ drop i before) c
      ∙ ap (λ (l : List ℕ). take (length own) l ++ drop (length own) before) front
      ∙ ap (λ (l : List ℕ). l ++ drop (length own) before) (take-append_seam own (drop (0 + length own) room)))

  -- written by a walk
  pub written : (after : List ℕ) (a : Result Listed Refusal) → Walked tree allowance 0 0 before after a → Front after a
  written after a w =
      let c = counted in
      let z = zero-add (length own) in
      let same : a ≡ Ok x = w.says ∙ sym says in
      subst (Front after) (sym same)
      (in_front after (w.wrote x same ∙ sets-eq own before 0 (omega arith) ∙ ap (λ (k : ℕ). own ++ drop k before) z))
