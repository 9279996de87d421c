-- The promise of a call on an image is tight: what two calls of one kind leave is equal, in the number, the image, every lent byte and every row.
use mathlib.Core.Path.{◌≡◌, sym, ◌∙◌}
use mathlib.Core.List.{List}
use Prim.Native.Nat.{ℕ, ◌^◌}
use Rattle.rules.specs.Typed.{Below}
use Rattle.rules.specs.Rows.{bytes_of}
use Rattle.rules.proofs.Turning.{one_form}
use Rattle.imaged.specs.Imaged.{Card, Leaves}

-- all that a call leaves, its rows each of 64 bits by their type
pub record Result : Type 0 where
  pub refusal : ℕ
  pub image : List ℕ
  pub memory : List ℕ
  pub rows : List ℕ
  pub history : List ℕ

abbrev pub Typed : Result → Type 0
Typed r = Below (2 ^ 64) r.rows

abbrev pub Left : Card → Result → Type 0
Left c r = Leaves c r.refusal r.image r.memory (bytes_of r.rows) r.history

pub only_one : (c : Card) (r s : Result) → Typed r → Typed s → Left c r → Left c s → r ≡ s
only_one c r s b d g h =
    let says = g.says ∙ sym h.says in
    let image = g.image ∙ sym h.image in
    let memory = g.memory ∙ sym h.memory in
    let rows = one_form r.rows s.rows b d (g.picture ∙ sym h.picture) in
    let history = g.history ∙ sym h.history in
    λ i. record { refusal = says i; image = image i; memory = memory i; rows = rows i; history = history i }
