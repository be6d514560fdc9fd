-- What the promises mean. Since a table's satisfaction is monotone, every visit that should split does: number 13 is never given, and what
-- is listed on number 0 is every minimal quorum, or every minimal blocking set, once, in the listing order. A promise fits one result
-- only, and an answer is the same under any larger allowance.
use mathlib.Core.Path.{◌≡◌, refl, sym, ap, ◌∙◌, subst}
use mathlib.Core.Bool.{Bool, true, false, cond}
use mathlib.Core.List.{List, [], ◌∷◌, ◌++◌}
use Prim.Native.Nat.{ℕ, suc, ◌^◌, ◌≤◌}
use native.Mathlib.Omega.{arith}
use borrow.Author.Tests.{leb-true, ltb-false}
use lib.Dec.{leb, ltb}
use lib.ListN.{length, drop}
use Rattle.std.specs.Prelude.{Result, Ok, Err}
use Rattle.sets.specs.Sets.{everyone, size}
use Rattle.sets.proofs.Size.{size-everyone}
use Rattle.meanings.specs.Table.{nodes, satisfied}
use Rattle.meanings.specs.Faults.{Check, sound, fault, check}
use Rattle.meanings.specs.Quorums.{minimal_quorums, minimal_blocking_sets}
use Rattle.meanings.specs.Trees.{Listing, listed, broken, list, minimal_tree, blocking_tree}
use Rattle.meanings.specs.Replies.{Reply, reply, ◌is◌, Count, Visits, leaves, value, Lent, lent_exact}
use Rattle.meanings.specs.Questions.{on_check, in_room, list_says, list_puts, minimal_reply, blocking_reply}
use Rattle.theory.proofs.Walks.{visits}
use Rattle.theory.proofs.Minimal.{minimal_listed, minimal_visits}
use Rattle.theory.proofs.Blocking.{blocking_listed, blocking_visits}
use Rattle.faults.proofs.Numbers.{OnlyNine, larger_says, after_check}
use Rattle.satisfaction.proofs.Monotone.{satisfied_monotone}
use Rattle.answers.specs.declared.Listed.{Listed}
use Rattle.answers.specs.declared.Refusal.{Refusal}
use Rattle.answers.specs.declared.Refusal.TheVariants.{Unsplit}
use Rattle.answers.specs.Said.{listed_says}
use Rattle.answers.proofs.Exact.{listed_exact}
use Rattle.lists.specs.Lists.{ListsMinimal, ListsBlocking}

-- ---- what a tree lists is every such set
pub minimal-put : (t : List ℕ) → list_puts (list (minimal_tree (nodes t) (satisfied t))) ≡ minimal_quorums (nodes t) (satisfied t)
minimal-put t = ap list_puts (minimal_listed (nodes t) (satisfied t) (satisfied_monotone t))

pub blocking-put : (t : List ℕ) → list_puts (list (blocking_tree (nodes t) (satisfied t))) ≡ minimal_blocking_sets (nodes t) (satisfied t)
blocking-put t = ap list_puts (blocking_listed (nodes t) (satisfied t) (satisfied_monotone t))

-- ---- two results that both fit are equal
pub exact : (r : Reply) (own before a b : List ℕ) (x y : Result Listed Refusal) → Lent (listed_says x) r own before a → Lent (listed_says y) r own before b → (x ≡ y) × (a ≡ b)
exact r own before a b x y p q = let e = lent_exact p q in (listed_exact x y e.0, e.1)

-- ---- a larger allowance alters no answer: only number 9 depends on it
pub more_says : (k : Check) (a b room : ℕ) (L : Listing ℕ) → a ≤ b → OnlyNine (on_check k (list_says a room L)) (on_check k (list_says b room L))
more_says k a b room (listed l j) h =
    after_check k (list_says a room (listed l j)) (list_says b room (listed l j))
    (larger_says a b j (in_room room (length l) (reply 0 (Count is length l ∷ Visits is j ∷ []))) h)
more_says k a b room (broken j) h = after_check k (list_says a room (broken j)) (list_says b room (broken j)) (larger_says a b j (reply 13 []) h)

module _ (t before after : List ℕ) (a b : ℕ) (h : a ≤ b) (o : Result Listed Refusal) (n : ¬ ((listed_says o).number ≡ 9)) where
  larger : (own : List ℕ) (L : Listing ℕ) → Lent (listed_says o) (on_check (check t) (list_says a (length before) L)) own before after
      → Lent (listed_says o) (on_check (check t) (list_says b (length before) L)) own before after
  larger own L p =
      subst (λ (x : Reply). Lent (listed_says o) x own before after)
      (sym (more_says (check t) a b (length before) L h (λ z. n (ap (λ (x : Reply). x.number) p.answers ∙ z)))) p

  pub minimal_larger : (own : List ℕ) → Lent (listed_says o) (minimal_reply t a (length before)) own before after → Lent (listed_says o) (minimal_reply t b (length before)) own before after
  unfolding minimal_reply
  minimal_larger own = larger own (list (minimal_tree (nodes t) (satisfied t)))

  pub blocking_larger : (own : List ℕ) → Lent (listed_says o) (blocking_reply t a (length before)) own before after → Lent (listed_says o) (blocking_reply t b (length before)) own before after
  unfolding blocking_reply
  blocking_larger own = larger own (list (blocking_tree (nodes t) (satisfied t)))

-- ---- what an answer tells, of a tree whose walk lists l in so many steps
pub record All (l : List ℕ) (steps allowance : ℕ) (before after : List ℕ) (x : Listed) : Type 0 where
  pub lent : after ≡ l ++ drop (length l) before
  pub counted : x.count ≡ length l
  pub visited : x.visits ≡ steps
  pub within : x.visits ≤ allowance
  pub fits : x.count ≤ length before

module _ (allowance : ℕ) (l : List ℕ) (steps : ℕ) where
  abbrev says : Check → Bool → Bool → Reply
  says k x y = on_check k (cond x (cond y (reply 10 (Count is length l ∷ [])) (reply 0 (Count is length l ∷ Visits is steps ∷ []))) (reply 9 (Visits is allowance ∷ [])))

  -- only one case is number 0, and none is number 13
  answer_case : (x : Listed) (k : Check) (a b : Bool) → listed_says (Ok x) ≡ says k a b → (k ≡ sound) × (a ≡ true) × (b ≡ false) × (x.count ≡ length l) × (x.visits ≡ steps)
  answer_case x (fault j p) a b e = let w : ◌≡◌ {A = ℕ} 2 1 = ap (λ (r : Reply). length r.names) e in absurd (omega arith)
  answer_case x sound true true e = let w : ◌≡◌ {A = ℕ} 0 10 = ap (λ (r : Reply). r.number) e in absurd (omega arith)
  answer_case x sound true false e = (refl, refl, refl, ap (λ (r : Reply). value r Count) e, ap (λ (r : Reply). value r Visits) e)
  answer_case x sound false b e = let w : ◌≡◌ {A = ℕ} 0 9 = ap (λ (r : Reply). r.number) e in absurd (omega arith)

  unsplit_case : (k : Check) (a b : Bool) → listed_says (Err Unsplit) ≡ says k a b → ⊥
  unsplit_case (fault j p) a b e = let w : ◌≡◌ {A = ℕ} 0 1 = ap (λ (r : Reply). length r.names) e in omega arith
  unsplit_case sound true true e = let w : ◌≡◌ {A = ℕ} 13 10 = ap (λ (r : Reply). r.number) e in omega arith
  unsplit_case sound true false e = let w : ◌≡◌ {A = ℕ} 13 0 = ap (λ (r : Reply). r.number) e in omega arith
  unsplit_case sound false b e = let w : ◌≡◌ {A = ℕ} 13 9 = ap (λ (r : Reply). r.number) e in omega arith

  module _ (k : Check) (before after : List ℕ) (L : Listing ℕ) (same : L ≡ listed l steps) where
    as_listed : (o : Result Listed Refusal) → Lent (listed_says o) (on_check k (list_says allowance (length before) L)) (list_puts L) before after
        → Lent (listed_says o) (says k (leb steps allowance) (ltb (length before) (length l))) l before after
    as_listed o p = subst (λ (x : Listing ℕ). Lent (listed_says o) (on_check k (list_says allowance (length before) x)) (list_puts x) before after) same p

    all_listed : (x : Listed) → Lent (listed_says (Ok x)) (on_check k (list_says allowance (length before) L)) (list_puts L) before after → All l steps allowance before after x
    all_listed x p =
        let q = as_listed (Ok x) p in
        let w = answer_case x k (leb steps allowance) (ltb (length before) (length l)) q.answers in
        let m = leb-true steps allowance w.1 in
        let f = ltb-false (length before) (length l) w.2 in
        let c = w.3 in
        let s = w.4 in
        record {
          lent = q.holds ∙ sym (ap (λ (r : Reply). leaves r.number l before) q.answers);
          counted = c;
          visited = s;
          within = omega arith;
          fits = omega arith;
        }

    never_split : Lent (listed_says (Err Unsplit)) (on_check k (list_says allowance (length before) L)) (list_puts L) before after → ⊥
    never_split p = unsplit_case k (leb steps allowance) (ltb (length before) (length l)) (as_listed (Err Unsplit) p).answers

module _ (t : List ℕ) (allowance : ℕ) (before after : List ℕ) where
  abbrev n : ℕ
  n = nodes t

  abbrev s : ℕ → ℕ → Bool
  s = satisfied t

  abbrev Minimals : Result Listed Refusal → Type 0
  Minimals o = ListsMinimal t allowance before after o

  abbrev Blockings : Result Listed Refusal → Type 0
  Blockings o = ListsBlocking t allowance before after o

  -- what the walk of the tree puts there is every such set
  pub minimal_walked : (o : Result Listed Refusal) → Minimals o → Lent (listed_says o) (minimal_reply t allowance (length before)) (list_puts (list (minimal_tree n s))) before after
  minimal_walked o p = subst (λ (l : List ℕ). Lent (listed_says o) (minimal_reply t allowance (length before)) l before after) (sym (minimal-put t)) p

  pub blocking_walked : (o : Result Listed Refusal) → Blockings o → Lent (listed_says o) (blocking_reply t allowance (length before)) (list_puts (list (blocking_tree n s))) before after
  blocking_walked o p = subst (λ (l : List ℕ). Lent (listed_says o) (blocking_reply t allowance (length before)) l before after) (sym (blocking-put t)) p

  -- On number 0 the front of the list is every minimal quorum, in the listing order.
  pub minimal-all : (x : Listed) → Minimals (Ok x) → All (minimal_quorums n s) (visits (minimal_tree n s)) allowance before after x
  unfolding minimal_reply
  minimal-all x p = all_listed allowance (minimal_quorums n s) (visits (minimal_tree n s)) (check t) before after (list (minimal_tree n s)) (minimal_listed n s (satisfied_monotone t)) x (minimal_walked (Ok x) p)

  pub blocking-all : (x : Listed) → Blockings (Ok x) → All (minimal_blocking_sets n s) (visits (blocking_tree n s)) allowance before after x
  unfolding blocking_reply
  blocking-all x p = all_listed allowance (minimal_blocking_sets n s) (visits (blocking_tree n s)) (check t) before after (list (blocking_tree n s)) (blocking_listed n s (satisfied_monotone t)) x (blocking_walked (Ok x) p)

  -- Number 13 is never given.
  pub minimal_splits : Minimals (Err Unsplit) → ⊥
  unfolding minimal_reply
  minimal_splits p = never_split allowance (minimal_quorums n s) (visits (minimal_tree n s)) (check t) before after (list (minimal_tree n s)) (minimal_listed n s (satisfied_monotone t)) (minimal_walked (Err Unsplit) p)

  pub blocking_splits : Blockings (Err Unsplit) → ⊥
  unfolding blocking_reply
  blocking_splits p = never_split allowance (minimal_blocking_sets n s) (visits (blocking_tree n s)) (check t) before after (list (blocking_tree n s)) (blocking_listed n s (satisfied_monotone t)) (blocking_walked (Err Unsplit) p)

  -- No more visits are reported than 2 ^ (a + 1) - 1 for a nodes.
  few : (v steps : ℕ) → v ≡ steps → suc steps ≤ 2 ^ suc (size n (everyone n)) → suc v ≤ 2 ^ suc n
  few v steps e l = subst (λ (x : ℕ). suc v ≤ 2 ^ suc x) (size-everyone n) (subst (λ (x : ℕ). suc x ≤ 2 ^ suc (size n (everyone n))) (sym e) l)

  pub minimal_few : (x : Listed) → Minimals (Ok x) → suc x.visits ≤ 2 ^ suc (nodes t)
  minimal_few x p = few x.visits (visits (minimal_tree n s)) (minimal-all x p).visited (minimal_visits n s)

  pub blocking_few : (x : Listed) → Blockings (Ok x) → suc x.visits ≤ 2 ^ suc (nodes t)
  blocking_few x p = few x.visits (visits (blocking_tree n s)) (blocking-all x p).visited (blocking_visits n s)
