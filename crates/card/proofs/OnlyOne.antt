-- The boundary's promises are tight: two results that one call allows are equal, the answer of a step, a run, a salvage or a plain run, the list, the page,
-- the panel and the two forms of the picture included.
use mathlib.Core.Path.{◌≡◌, sym, ap, ◌∙◌}
use mathlib.Core.List.{List}
use Prim.Native.Nat.{ℕ}
use lib.Dec.{eqb}
use Rattle.rules.specs.Number.{pick}
use Rattle.imaged.specs.Imaged.{Card}
use Rattle.imaged_salvage.specs.Salvaged.{LeavesSalvage}
use Rattle.imaged_plain.specs.PlainOn.{PlainCard, LeavesPlain}
use Rattle.salvage.specs.Salvage.{Salvage}
use Rattle.imaged.proofs.OnlyOne.{Result, Typed, Left, only_one}
use Rattle.answering.specs.Answer.{answered}
use Rattle.card.specs.Card.{LeavesPage, LeavesPanel, LeavesRows, LeavesBytes}

module _ (c : Card) (r s : Result) (b : Typed r) (d : Typed s) where
  -- a step's first number is read off its refusal number
  pub only_one_step : (dark : ℕ) (before x y : List ℕ)
      → Left c r → x ≡ answered (pick (eqb r.refusal 0) 1 0) dark 0 before
      → Left c s → y ≡ answered (pick (eqb s.refusal 0) 1 0) dark 0 before
      → (r ≡ s) × (x ≡ y)
  only_one_step dark before x y g p h q =
      let same = only_one c r s b d g h in
      (same, p ∙ ap (λ (k : Result). answered (pick (eqb k.refusal 0) 1 0) dark 0 before) same ∙ sym q)

  pub only_one_run : (accepted dark copied : ℕ) (before x y : List ℕ)
      → Left c r → x ≡ answered accepted dark copied before → Left c s → y ≡ answered accepted dark copied before
      → (r ≡ s) × (x ≡ y)
  only_one_run accepted dark copied before x y g p h q = (only_one c r s b d g h, p ∙ sym q)

pub only_one_salvage : (image : List ℕ) (s : Salvage) (first second : ℕ) (before : List ℕ) (n k : ℕ) (img img' his his' lst lst' x y : List ℕ)
    → LeavesSalvage image s n img his lst → x ≡ answered first second 0 before
    → LeavesSalvage image s k img' his' lst' → y ≡ answered first second 0 before
    → (n ≡ k) × (img ≡ img') × (his ≡ his') × (lst ≡ lst') × (x ≡ y)
only_one_salvage image s first second before n k img img' his his' lst lst' x y g p h q =
    (g.says ∙ sym h.says, g.image ∙ sym h.image, g.history ∙ sym h.history, g.list ∙ sym h.list, p ∙ sym q)

pub only_one_plain : (c : PlainCard) (accepted : ℕ) (before : List ℕ) (n k : ℕ) (img img' mem mem' spots spots' x y : List ℕ)
    → LeavesPlain c n img mem spots → x ≡ answered accepted 0 0 before
    → LeavesPlain c k img' mem' spots' → y ≡ answered accepted 0 0 before
    → (n ≡ k) × (img ≡ img') × (mem ≡ mem') × (spots ≡ spots') × (x ≡ y)
only_one_plain c accepted before n k img img' mem mem' spots spots' x y g p h q =
    (g.says ∙ sym h.says, g.image ∙ sym h.image, g.memory ∙ sym h.memory, g.spots ∙ sym h.spots, p ∙ sym q)

pub only_one_page : (n k : ℕ) (image before x y : List ℕ) → LeavesPage n image before x → LeavesPage k image before y → (n ≡ k) × (x ≡ y)
only_one_page n k image before x y g h = (g.says ∙ sym h.says, g.bytes ∙ sym h.bytes)

pub only_one_panel : (n k : ℕ) (picture before x y : List ℕ) → LeavesPanel n picture before x → LeavesPanel k picture before y
    → (n ≡ k) × (x ≡ y)
only_one_panel n k picture before x y g h = (g.says ∙ sym h.says, g.bytes ∙ sym h.bytes)

pub only_one_rows : (n k : ℕ) (picture before x y : List ℕ) → LeavesRows n picture before x → LeavesRows k picture before y
    → (n ≡ k) × (x ≡ y)
only_one_rows n k picture before x y g h = (g.says ∙ sym h.says, g.rows ∙ sym h.rows)

pub only_one_bytes : (n k : ℕ) (rows before x y : List ℕ) → LeavesBytes n rows before x → LeavesBytes k rows before y
    → (n ≡ k) × (x ≡ y)
only_one_bytes n k rows before x y g h = (g.says ∙ sym h.says, g.bytes ∙ sym h.bytes)
