-- A quorum is minimal exactly when none of its nodes can be spared: a smaller quorum inside it misses some node, and so lies in what is
-- left without that node. A blocking set likewise: what holds a blocking set blocks.
use mathlib.Core.Path.{◌≡◌, refl, sym, ap, ◌∙◌, subst}
use mathlib.Core.Bool.{Bool, true, false, not}
use mathlib.Core.Logic.{⊎_elim}
use Prim.Native.Nat.{ℕ, ◌^◌, ◌<◌}
use lib.Pow.{pow-lt}
use Rattle.sets.specs.Sets.{has, nobody, everyone, only, ◌∖◌, empty, within, size, lowest}
use Rattle.sets.proofs.Bools.{either, clash, fails, not-holds}
use Rattle.sets.proofs.Members.{In, Sub, has-nobody, has_below, has-everyone, ∖_in, ∖_out, ∖-lt, only_in, only_out, none_in, sub_antisym, sub_within, within-sub, within-lt}
use Rattle.sets.proofs.Size.{size-lt}
use Rattle.sets.proofs.Lowest.{lowest_in}
use Rattle.meanings.specs.Quorums.{quorum, holds_quorum, minimal_quorum, blocking_set, minimal_blocking, greatest}
use Rattle.theory.proofs.Quorum.{Monotone, Quorum, quorum_is, a_node}
use Rattle.theory.proofs.Greatest.{greatest-sub, greatest-has, greatest-quorum, greatest-holds}
use Rattle.theory.proofs.Minimal as M
use Rattle.theory.proofs.Blocking as B
use Rattle.greatest.specs.Greatest.{holding}
use Rattle.greatest.proofs.Below.{holding-holds}
use Rattle.listing_visits.specs.declared.Sought.{Sought}
use Rattle.listing_visits.specs.declared.Sought.TheVariants.{Quorums, Blocking}
use Rattle.listing_visits.specs.Visits.{is_sought, is_minimal, spared, Left}

module _ (n : ℕ) (s : ℕ → ℕ → Bool) where
  -- a quorum in u
  quorum-holds : (u q : ℕ) → Quorum n s nobody q → Sub q u → holds_quorum n s nobody u ≡ true
  quorum-holds u q a f =
      let w = a_node n s q a.below a.some_node in
      greatest-holds n s nobody u (λ z. none_in (greatest n s nobody u) w.0 z (greatest-has n s nobody u q a f w.0 w.1))

  module _ (c : ℕ) (h : c < 2 ^ n) where
    -- a part of c that misses v lies in c without v
    misses : (q v : ℕ) → Sub q c → has q v ≡ false → Sub q (c ∖ only v)
    misses q v f e i p =
        ∖_in c (only v) i (f i p) (fails (has (only v) i) (λ x. clash (has q v) (subst (In q) (only_out i v x) p) e))

    lacks : (v : ℕ) → has (c ∖ only v) v ≡ false
    lacks v = fails (has (c ∖ only v) v) (λ x. clash (has (only v) v) (only_in v) (∖_out c (only v) v x).1)

    -- a part that misses no node of c is c
    all_kept : (q : ℕ) → q < 2 ^ n → Sub q c → ((v : ℕ) → In c v → has q v ≡ false → ⊥) → q ≡ c
    all_kept q l f g = sub_antisym n q c l h f (λ v p. ⊎_elim (λ x. x) (λ x. absurd (g v p x)) (either (has q v)))

    pub quorum-minimal : quorum n s nobody c ≡ true → ((v : ℕ) → In c v → holds_quorum n s nobody (c ∖ only v) ≡ false) → minimal_quorum n s c ≡ true
    quorum-minimal e f =
        M.is_minimal_lem n s c (record {
          is = quorum_is n s nobody c e;
          least = λ q a g. all_kept q a.below g
              (λ v p x. clash (holds_quorum n s nobody (c ∖ only v)) (quorum-holds (c ∖ only v) q a (misses q v g x)) (f v p));
        })

    pub minimal-quorum : minimal_quorum n s c ≡ true → (v : ℕ) → In c v → holds_quorum n s nobody (c ∖ only v) ≡ false
    minimal-quorum e v p =
        fails (holds_quorum n s nobody (c ∖ only v)) (λ x.
        let w = B.a_quorum n s (c ∖ only v) x in
        let m = (M.minimal_is n s c e).least w.0 w.1 (λ i y. (∖_out c (only v) i (w.2 i y)).0) in
        clash (has (c ∖ only v) v) (w.2 v (subst (λ (y : ℕ). In y v) (sym m) p)) (lacks v))

    pub blocking-minimal : blocking_set n s c ≡ true → ((v : ℕ) → In c v → blocking_set n s (c ∖ only v) ≡ false) → minimal_blocking n s c ≡ true
    blocking-minimal e f =
        B.is_minimal_lem n s c (record {
          bound = h;
          is = B.blocking_is n s c e;
          least = λ b l k g. all_kept b l g
              (λ v p x. clash (blocking_set n s (c ∖ only v))
              (B.is_blocking n s (c ∖ only v) (λ q a y. k q a (λ i z. fails (has b i) (λ w. clash (has (c ∖ only v) i) (misses b v g x i w) (y i z)))))
              (f v p));
        })

    pub minimal-blocking : minimal_blocking n s c ≡ true → (v : ℕ) → In c v → blocking_set n s (c ∖ only v) ≡ false
    minimal-blocking e v p =
        fails (blocking_set n s (c ∖ only v)) (λ x.
        let m = (B.minimal_is n s c h e).least (c ∖ only v) (∖-lt n c (only v) h) (B.blocking_is n s (c ∖ only v) x) (λ i y. (∖_out c (only v) i y).0) in
        clash (has c v) p (ap (λ (y : ℕ). has y v) (sym m) ∙ lacks v))

    -- for either kind
    pub none-spared : (k : Sought) → is_sought n s k c ≡ true → ((v : ℕ) → In c v → spared n s k c v ≡ false) → is_minimal n s k c ≡ true
    none-spared Quorums e f = quorum-minimal e f
    none-spared Blocking e f = blocking-minimal e f

    pub one_spared : (k : Sought) (v : ℕ) → In c v → spared n s k c v ≡ true → is_minimal n s k c ≡ false
    one_spared Quorums v p e = fails (minimal_quorum n s c) (λ x. clash (holds_quorum n s nobody (c ∖ only v)) e (minimal-quorum x v p))
    one_spared Blocking v p e = fails (minimal_blocking n s c) (λ x. clash (blocking_set n s (c ∖ only v)) e (minimal-blocking x v p))

-- ---- the test, node by node
module _ (n : ℕ) (s : ℕ → ℕ → Bool) (k : Sought) (c : ℕ) where
  pub left-all : c < 2 ^ n → Left n s k c c
  left-all h = record { below = h; inside = sub_within n c c h (λ i p. p); kept = λ v p q. clash (has c v) p q }

  module _ (left : ℕ) (w : Left n s k c left) where
    pub left-none : c < 2 ^ n → is_sought n s k c ≡ true → left ≡ nobody → is_minimal n s k c ≡ true
    left-none h e z = none-spared n s c h k e (λ v p. w.kept v p (ap (λ (x : ℕ). has x v) z ∙ has-nobody v))

    module _ (v : ℕ) (word : c < 2 ^ 64) (z : ¬ (left ≡ nobody)) (e : v ≡ lowest 64 left) where
      left_lt : left < 2 ^ 64
      left_lt = within-lt 64 left c word w.inside

      pub next_in : In left v
      next_in = subst (In left) (sym e) (lowest_in 64 left left_lt z)

      pub next_lt : v < n
      next_lt = has_below n left v w.below next_in

      pub next_bit : v < 64
      next_bit = has_below 64 left v left_lt next_in

      pub next_chosen : In c v
      next_chosen = within-sub left c w.inside v next_in

      pub next_spared : c < 2 ^ n → spared n s k c v ≡ true → is_minimal n s k c ≡ false
      next_spared h = one_spared n s c h k v next_chosen

      pub next_fewer : size 64 (left ∖ only v) < size 64 left
      next_fewer =
          size-lt 64 (left ∖ only v) left v (∖-lt 64 left (only v) left_lt) left_lt (λ i p. (∖_out left (only v) i p).0) next_in
          (fails (has (left ∖ only v) v) (λ p. clash (has (only v) v) (only_in v) (∖_out left (only v) v p).1))

      pub left_next : spared n s k c v ≡ false → Left n s k c (left ∖ only v)
      left_next f =
          record {
            below = ∖-lt n left (only v) w.below;
            inside = sub_within n (left ∖ only v) c (∖-lt n left (only v) w.below) (λ i p. within-sub left c w.inside i (∖_out left (only v) i p).0);
            kept = λ i p q. ⊎_elim
                (λ x. ⊎_elim
                (λ y. subst (λ (j : ℕ). spared n s k c j ≡ false) (sym (only_out i v y)) f)
                (λ y. clash (has (left ∖ only v) i) (∖_in left (only v) i x y) q)
                (either (has (only v) i)))
                (w.kept i p)
                (either (has left i));
          }

-- ---- whether a node can be spared, as the greatest quorum of what is left tells it
module _ (n : ℕ) (s : ℕ → ℕ → Bool) (mono : Monotone s) where
  -- those that are done are in every quorum inside c
  pub spares_quorum : (c v left x : ℕ) → c < 2 ^ n → Left n s Quorums c left → x ≡ holding (c ∖ left) (greatest n s nobody (c ∖ only v))
      → not (empty x) ≡ holds_quorum n s nobody (c ∖ only v)
  spares_quorum c v left x c_lt w e =
      holding-holds n s nobody (c ∖ left) (c ∖ only v) x e (λ z.
      let q = greatest-quorum n s mono nobody (c ∖ only v) z in
      let in_c : Sub (greatest n s nobody (c ∖ only v)) c = λ i p. (∖_out c (only v) i (greatest-sub n s nobody (c ∖ only v) i p)).0 in
      sub_within n (c ∖ left) (greatest n s nobody (c ∖ only v)) (∖-lt n c left c_lt) (λ i p.
      let o = ∖_out c left i p in
      ⊎_elim (λ y. y) (λ y. clash (holds_quorum n s nobody (c ∖ only i)) (quorum-holds n s (c ∖ only i) (greatest n s nobody (c ∖ only v)) q (misses n s c c_lt (greatest n s nobody (c ∖ only v)) i in_c y)) (w.kept i o.0 o.1))
      (either (has (greatest n s nobody (c ∖ only v)) i))))

  -- a quorum outside what is left of c without v has v, since c blocks
  pub spares_blocking : (c v x : ℕ) → c < 2 ^ n → v < n → blocking_set n s c ≡ true → x ≡ holding (only v) (greatest n s nobody (everyone n ∖ (c ∖ only v)))
      → empty x ≡ blocking_set n s (c ∖ only v)
  unfolding blocking_set
  spares_blocking c v x c_lt v_lt b e =
      sym (not-not (empty x))
      ∙ ap not (holding-holds n s nobody (only v) (everyone n ∖ (c ∖ only v)) x e (λ z.
      let g = greatest n s nobody (everyone n ∖ (c ∖ only v)) in
      let q = greatest-quorum n s mono nobody (everyone n ∖ (c ∖ only v)) z in
      ⊎_elim
      (λ y. sub_within n (only v) g (pow-lt v_lt) (λ i p. subst (In g) (sym (only_out i v p)) y))
      (λ y. clash (holds_quorum n s nobody (everyone n ∖ c)) (quorum-holds n s (everyone n ∖ c) g q (λ i p.
      let o = ∖_out (everyone n) (c ∖ only v) i (greatest-sub n s nobody (everyone n ∖ (c ∖ only v)) i p) in
      ∖_in (everyone n) c i o.0 (fails (has c i) (λ k. ⊎_elim
      (λ m. clash (has g v) (subst (In g) (only_out i v m) p) y)
      (λ m. clash (has (c ∖ only v) i) (∖_in c (only v) i k m) o.1)
      (either (has (only v) i))))))
      (not-holds (holds_quorum n s nobody (everyone n ∖ c)) b))
      (either (has g v))))
    where
      not-not : (b : Bool) → not (not b) ≡ b
      not-not true = refl
      not-not false = refl

-- those that are done stay without a node that is not
pub done_stay : (n c left v : ℕ) → c < 2 ^ n → In left v → within (c ∖ left) (c ∖ only v) ≡ true
done_stay n c left v h p =
    sub_within n (c ∖ left) (c ∖ only v) (∖-lt n c left h) (λ i q.
    let o = ∖_out c left i q in
    ∖_in c (only v) i o.0 (fails (has (only v) i) (λ x. clash (has left i) (subst (In left) (sym (only_out i v x)) p) o.1)))

pub left_in : (n : ℕ) (s : ℕ → ℕ → Bool) (k : Sought) (c left : ℕ) → Left n s k c left → Sub left c
left_in n s k c left w = within-sub left c w.inside

-- a node is outside what is left without it
pub one_outside : (n c v : ℕ) → v < n → (one : ℕ) → one ≡ only v → (u : ℕ) → u ≡ everyone n ∖ (c ∖ only v) → within one u ≡ true
one_outside n c v l one eo u eu =
    subst (λ (x : ℕ). within x u ≡ true) (sym eo) (sub_within n (only v) u (pow-lt l) (λ i p.
    subst (λ (x : ℕ). In x i) (sym eu) (∖_in (everyone n) (c ∖ only v) i (subst (In (everyone n)) (sym (only_out i v p)) (has-everyone n v l))
    (fails (has (c ∖ only v) i) (λ x. clash (has (only v) i) p (∖_out c (only v) i x).1)))))
