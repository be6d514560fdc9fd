-- SPECIFICATION 7: what an operation answers, and what it leaves in a lent buffer.
use Rattle.std.specs.Prelude.{◌≡◌, true, false, List, [], ◌∷◌, ◌++◌, ℕ, eqb, length, drop}
use Rattle.std.proofs.Common.{sym, ◌∙◌}

infix 90 ◌is◌
-- what may be returned beside the number
pub data Field : Type 0 where
  Place Nodes Records Answer Set Rounds First Second Count Visits : Field

-- a field that a reply names, with its value
pub record Named : Type 0 where
  pub field : Field
  pub value : ℕ

abbrev pub ◌is◌ : Field → ℕ → Named
f is x = record { field = f; value = x }

-- A reply: its number, and the fields that are named for it.
pub record Reply : Type 0 where
  pub number : ℕ
  pub names : List Named

abbrev pub reply : ℕ → List Named → Reply
reply k l = record { number = k; names = l }

-- whether two fields are the same: by their place in the list of fields
abbrev pub rank : Field → ℕ
rank Place = 0
rank Nodes = 1
rank Records = 2
rank Answer = 3
rank Set = 4
rank Rounds = 5
rank First = 6
rank Second = 7
rank Count = 8
rank Visits = 9

-- Fields not named are 0.
abbrev pub value_in : List Named → Field → ℕ
value_in [] f = 0
value_in (x ∷ l) f = elim (eqb (rank x.field) (rank f)) [ true ↦ x.value | false ↦ value_in l f ]

abbrev pub value : Reply → Field → ℕ
value r f = value_in r.names f

-- Every number above 0 leaves lent buffers untouched; an answer writes only its own words or bytes at the front.
abbrev pub leaves : ℕ → List ℕ → List ℕ → List ℕ
leaves number own before = elim (eqb number 0) [ true ↦ own ++ drop (length own) before | false ↦ before ]

-- What an operation comes to that is lent a buffer, which held `before` and then holds `after`: it says what is told, and the buffer is left
-- as the number asks, with the answer's own words or bytes in it or not.
pub record Lent (said told : Reply) (own before after : List ℕ) : Type 0 where
  pub answers : said ≡ told
  pub holds : after ≡ leaves told.number own before

-- Two results that both fit are equal.
pub lent_exact : {told x y : Reply} {own before a b : List ℕ} → Lent x told own before a → Lent y told own before b → (x ≡ y) × (a ≡ b)
lent_exact p q = (p.answers ∙ sym q.answers, p.holds ∙ sym q.holds)

-- A number above 0 leaves the buffer as it was.
pub untouched : {said told : Reply} {own before : List ℕ} → said ≡ told → eqb told.number 0 ≡ false → Lent said told own before before
untouched e z = record { answers = e; holds = rw (leaves, z) }
