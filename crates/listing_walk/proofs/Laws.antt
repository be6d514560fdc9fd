-- A walk of a tree that splits is the visit, the walk of the first part and the walk of the second, which goes on where the first stopped:
-- with its visits spent, its sets found, and the list as it left it.
use mathlib.Core.Path.{◌≡◌, refl, sym, ap, ap₂, ◌∙◌, subst}
use mathlib.Core.Bool.{Bool, true, false, cond}
use mathlib.Core.List.{List, [], ◌∷◌, ◌++◌}
use Prim.Native.Nat.{ℕ, suc, ◌+◌, ◌≤◌, ◌<◌}
use native.Mathlib.Nat.{le_refl, add-zero}
use native.Mathlib.Omega.{arith}
use borrow.Author.Tests.{leb-true, leb-false, le-leb, lt-leb}
use lib.Dec.{leb}
use lib.ListN.{length, set, length-append}
use lib.Seq.{sets}
use Rattle.std.specs.Prelude.{Result, Ok, Err}
use Rattle.sets.specs.Sets.{only, ◌∪◌, size}
use Rattle.meanings.specs.Table.{nodes, satisfied}
use Rattle.meanings.specs.Trees.{Tree, leaf, found, unsplit, fork, Listing, listed, broken, then_list, list}
use Rattle.meanings.specs.Questions.{list_puts}
use Rattle.answers.specs.declared.Listed.{Listed}
use Rattle.answers.specs.declared.Refusal.{Refusal}
use Rattle.answers.specs.declared.Refusal.TheVariants.{Spent, Unsplit}
use Rattle.quorum_visits.specs.declared.Visit.{Visit}
use Rattle.listing_visits.specs.declared.Sought.{Sought}
use Rattle.listing_visits.specs.Visits.{tree_at, open_below, Splits, Below}
use Rattle.listing_walk.specs.Walked.{answered, Walked}

-- ---- a tree has a visit, and no more finds than visits
abbrev Counted : Listing ℕ → Type 0
Counted (listed l k) = (1 ≤ k) × (length l ≤ k)
Counted (broken k) = 1 ≤ k

then_counted : (a b : Listing ℕ) → Counted a → Counted b → Counted (then_list a b)
then_counted (listed l k) (listed m j) p q = let e = length-append l m in (omega arith, omega arith)
then_counted (listed l k) (broken j) p q = omega arith
then_counted (broken k) b p q = omega arith

pub list_counted : (t : Tree ℕ) → Counted (list t)
unfolding list
list_counted leaf = (le_refl 1, omega arith)
list_counted (found x) = (le_refl 1, omega arith)
list_counted unsplit = le_refl 1
list_counted (fork x y) = then_counted (list x) (list y) (list_counted x) (list_counted y)

-- ---- what an answer tells of the tree: every visit that should split does, and all were within the allowance
pub record Told (L : Listing ℕ) (allowance spent so_far : ℕ) (some : Listed) : Type 0 where
  pub finds : List ℕ
  pub steps : ℕ
  pub same : L ≡ listed finds steps
  pub counted : some.count ≡ so_far + length finds
  pub visited : some.visits ≡ spent + steps
  pub enough : some.visits ≤ allowance

module _ (allowance spent so_far : ℕ) where
  pub told : (L : Listing ℕ) (some : Listed) → Ok some ≡ answered allowance spent so_far L → Told L allowance spent so_far some
  told (listed l k) some e = go (leb (spent + k) allowance) refl e
    where
      go : (b : Bool) → leb (spent + k) allowance ≡ b
          → Ok some ≡ cond b (Ok (record { count = so_far + length l; visits = spent + k })) (Err (Spent allowance))
          → Told (listed l k) allowance spent so_far some
      go true q z =
          let v : some.visits ≡ spent + k = cc in
          let m = leb-true (spent + k) allowance q in
          record { finds = l; steps = k; same = refl; counted = cc; visited = v; enough = omega arith }
      go false q z = cc
  told (broken k) some e = go (leb (spent + k) allowance) e
    where
      go : (b : Bool) → Ok some ≡ cond b (Err Unsplit) (Err (Spent allowance)) → Told (broken k) allowance spent so_far some
      go true z = cc
      go false z = cc

  spent_out : (L : Listing ℕ) → allowance ≤ spent → Counted L → Err (Spent allowance) ≡ answered allowance spent so_far L
  spent_out (listed l k) h p = rw (lt-leb (spent + k) allowance (omega arith))
  spent_out (broken k) h p = rw (lt-leb (spent + k) allowance (omega arith))

  -- what follows a walk that has spent the allowance is not reached
  over : (l : List ℕ) (k : ℕ) (b : Listing ℕ) → allowance < spent + 1 + k → Err (Spent allowance) ≡ answered allowance spent so_far (then_list (listed l k) b)
  over l k (listed m j) h = rw (lt-leb (spent + (suc k + j)) allowance (omega arith))
  over l k (broken j) h = rw (lt-leb (spent + (suc k + j)) allowance (omega arith))

  -- a refusal of the first part is handed on
  at_first : (a b : Listing ℕ) (why : Refusal) → Err why ≡ answered allowance (spent + 1) so_far a → Err why ≡ answered allowance spent so_far (then_list a b)
  at_first (listed l k) b why e = go (leb (spent + 1 + k) allowance) refl e
    where
      go : (x : Bool) → leb (spent + 1 + k) allowance ≡ x
          → ◌≡◌ {A = Result Listed Refusal} (Err why) (cond x (Ok (record { count = so_far + length l; visits = spent + 1 + k })) (Err (Spent allowance)))
          → Err why ≡ answered allowance spent so_far (then_list (listed l k) b)
      go true q z = cc
      go false q z = z ∙ over l k b (leb-false (spent + 1 + k) allowance q)
  at_first (broken k) b why e = e ∙ ap (λ (j : ℕ). cond (leb j allowance) (Err Unsplit) (Err (Spent allowance))) (omega arith)

  -- after an answer of the first part, the second's is the whole's
  at_second : (l : List ℕ) (k : ℕ) (b : Listing ℕ)
      → answered allowance (spent + 1 + k) (so_far + length l) b ≡ answered allowance spent so_far (then_list (listed l k) b)
  at_second l k (listed m j) =
      ap₂ (λ (x y : ℕ). cond (leb y allowance) (Ok (record { count = x; visits = y })) (Err (Spent allowance))) (let e = length-append l m in omega arith) (omega arith)
  at_second l k (broken j) = ap (λ (y : ℕ). cond (leb y allowance) (Err Unsplit) (Err (Spent allowance))) (omega arith)

-- ---- runs of stores, one behind another
pub sets-append : (before : List ℕ) (i : ℕ) (l m : List ℕ) → sets before i (l ++ m) ≡ sets (sets before i l) (i + length l) m
sets-append before i [] m = ap (λ (k : ℕ). sets before k m) (sym (add-zero i))
sets-append before i (x ∷ l) m =
    sets-append (set before i x) (suc i) l m ∙ ap (λ (k : ℕ). sets (sets (set before i x) (suc i) l) k m) (omega arith)

-- ---- what a walk comes to, by what its visit does
module _ (t : Tree ℕ) (allowance spent so_far : ℕ) (before : List ℕ) where
  pub walk_spent : allowance ≤ spent → Walked t allowance spent so_far before before (Err (Spent allowance))
  walk_spent h = record { says = spent_out allowance spent so_far (list t) h (list_counted t); wrote = λ some e. cc }

  module _ (h : spent < allowance) where
    pub walk_leaf : t ≡ leaf → Walked t allowance spent so_far before before (Ok (record { count = so_far; visits = spent + 1 }))
    unfolding list
    walk_leaf e =
        subst (λ (x : Tree ℕ). Walked x allowance spent so_far before before (Ok (record { count = so_far; visits = spent + 1 }))) (sym e)
        (record { says = rw (le-leb (spent + 1) allowance (omega arith), add-zero so_far); wrote = λ some k. refl })

    pub walk_found : (c : ℕ) (after : List ℕ) → t ≡ found c → after ≡ set before so_far c
        → Walked t allowance spent so_far before after (Ok (record { count = so_far + 1; visits = spent + 1 }))
    unfolding list
    walk_found c after e k =
        subst (λ (x : Tree ℕ). Walked x allowance spent so_far before after (Ok (record { count = so_far + 1; visits = spent + 1 }))) (sym e)
        (record { says = rw (le-leb (spent + 1) allowance (omega arith)); wrote = λ some z. k })

    pub walk_unsplit : t ≡ unsplit → Walked t allowance spent so_far before before (Err Unsplit)
    unfolding list
    walk_unsplit e =
        subst (λ (x : Tree ℕ). Walked x allowance spent so_far before before (Err Unsplit)) (sym e)
        (record { says = rw (le-leb (spent + 1) allowance (omega arith)); wrote = λ some z. cc })

  module _ (x y : Tree ℕ) (e : t ≡ fork x y) where
    list_parts : list t ≡ then_list (list x) (list y)
    unfolding list
    list_parts = ap list e

    pub walk_first : (after : List ℕ) (why : Refusal) → Walked x allowance (spent + 1) so_far before after (Err why)
        → Walked t allowance spent so_far before after (Err why)
    walk_first after why w =
        record {
          says = at_first allowance spent so_far (list x) (list y) why w.says ∙ sym (ap (answered allowance spent so_far) list_parts);
          wrote = λ some k. cc;
        }

    module _ (between : List ℕ) (first : Listed) (w : Walked x allowance (spent + 1) so_far before between (Ok first)) where
      first_told : Told (list x) allowance (spent + 1) so_far first
      first_told = told allowance (spent + 1) so_far (list x) first w.says

      -- no more sets are found than visits are spent
      pub still_fewer : so_far ≤ spent → first.count ≤ first.visits
      still_fewer h =
          let p = first_told in
          let q : Counted (listed p.finds p.steps) = subst Counted p.same (list_counted x) in
          let a = p.counted in
          let b = p.visited in
          omega (arith, q.1)

      pub walk_second : (after : List ℕ) (o : Result Listed Refusal) → Walked y allowance first.visits first.count between after o
          → Walked t allowance spent so_far before after o
      walk_second after o v =
          let p = first_told in
          let whole : list t ≡ then_list (listed p.finds p.steps) (list y) = list_parts ∙ ap (λ (z : Listing ℕ). then_list z (list y)) p.same in
          record {
            says = v.says ∙ ap₂ (λ (i j : ℕ). answered allowance i j (list y)) p.visited p.counted
                ∙ at_second allowance spent so_far p.finds p.steps (list y) ∙ sym (ap (answered allowance spent so_far) whole);
            wrote = λ some z.
                let q = told allowance first.visits first.count (list y) some (sym z ∙ v.says) in
                let puts : list_puts (list t) ≡ p.finds ++ q.finds = ap list_puts (whole ∙ ap (then_list (listed p.finds p.steps)) q.same) in
                v.wrote some z
                ∙ ap (sets between first.count) (ap list_puts q.same)
                ∙ ap₂ (λ (b : List ℕ) (i : ℕ). sets b i q.finds) (w.wrote first refl ∙ ap (sets before so_far) (ap list_puts p.same)) p.counted
                ∙ sym (sets-append before so_far p.finds q.finds)
                ∙ ap (sets before so_far) (sym puts);
          }

-- ---- a split, as the visits below it know it
module _ (t : List ℕ) (sought : Sought) (a : Visit) (v due : ℕ) (S : Splits t sought a v due) where
  abbrev tree : ℕ → ℕ → Tree ℕ
  tree c r = tree_at (nodes t) (satisfied t) sought c r

  pub parted : (b : Visit) → Below t sought a v a.c b → tree a.c a.r ≡ fork (tree b.c b.r) (tree (a.c ∪ only v) (open_below sought a v))
  parted b B = S.parts ∙ ap₂ (λ (x y : ℕ). fork (tree x y) (tree (a.c ∪ only v) (open_below sought a v))) (sym B.chosen_are) (sym B.open_are)

  pub parted_both : (b w : Visit) → Below t sought a v a.c b → Below t sought a v (a.c ∪ only v) w
      → tree a.c a.r ≡ fork (tree b.c b.r) (tree w.c w.r)
  parted_both b w B W = parted b B ∙ ap₂ (λ (x y : ℕ). fork (tree b.c b.r) (tree x y)) (sym W.chosen_are) (sym W.open_are)

  pub fewer_open : (c : ℕ) (b : Visit) → Below t sought a v c b → size 64 b.r < size 64 a.r
  fewer_open c b B = rw B.open_are S.fewer
