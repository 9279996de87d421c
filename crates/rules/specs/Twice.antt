-- Request Q-9: drawing twice puts it back. First what holds of any two drawings, then what that means for two equal DXYN.
use Rattle.std.specs.Prelude.{◌≡◌, ◌↔◌, List, ℕ, ◌<◌, length}
use Rattle.rules.specs.declared.Op.TheVariants.{Draw}
use Rattle.rules.specs.State.{picture_size, reg}
use Rattle.rules.specs.Picture.{spot, shown, drawn, darkened, lightened}
use Rattle.rules.specs.Memory.{part}
use Rattle.rules.specs.Step.{column, row}
use Rattle.rules.specs.World.{World, board_of}
use Rattle.rules.specs.Call.{op_at, step, step_refusal}
use Rattle.rules.specs.Typed.{Below, TypedBoard}

-- ---- two drawings

-- some 1 bit that is shown on the picture meets a spot that is so: 1 for lit, 0 for dark. Some: there is a column and a row
pub record Meets (so : ℕ) (pattern : List ℕ) (column row : ℕ) (picture : List ℕ) : Type 0 where
  pub x : ℕ
  pub y : ℕ
  pub across : x < 64
  pub down : y < 32
  pub one : shown pattern column row x y ≡ 1
  pub is : spot picture x y ≡ so

abbrev pub MeetsLit : List ℕ → ℕ → ℕ → List ℕ → Type 0
MeetsLit = Meets 1

abbrev pub MeetsDark : List ℕ → ℕ → ℕ → List ℕ → Type 0
MeetsDark = Meets 0

-- a drawing reports a touch where lit spots go dark
abbrev pub Touches : List ℕ → ℕ → ℕ → List ℕ → Type 0
Touches pattern column row picture = 0 < darkened pattern column row picture

-- with the same column, row and pattern, two drawings leave the picture as it was; the first reports a touch exactly if some shown 1 bit
-- met a lit spot; the second exactly if some shown 1 bit had met a dark one; and as many spots as the first lit go dark in the second
pub record PutBack (pattern : List ℕ) (column row : ℕ) (picture : List ℕ) : Type 0 where
  pub back : drawn pattern column row (drawn pattern column row picture) ≡ picture
  pub first : Touches pattern column row picture ↔ MeetsLit pattern column row picture
  pub second : Touches pattern column row (drawn pattern column row picture) ↔ MeetsDark pattern column row picture
  pub number : darkened pattern column row (drawn pattern column row picture) ≡ lightened pattern column row picture

-- ---- two equal DXYN

-- a variable other than VF
abbrev pub OtherThanF : ℕ → Type 0
OtherThanF x = x < 0xF

-- the step at w is an accepted DXYN
pub record Draws (x y n : ℕ) (w : World) : Type 0 where
  pub instruction : op_at (board_of w) ≡ Draw x y n
  pub accepted : step_refusal w ≡ 0

-- the N bytes of memory from I
abbrev pub pattern_at : ℕ → World → List ℕ
pattern_at n w = part w.memory w.machine.i n

-- what can be said of a drawing, said of the DXYN at w
abbrev pub At : (List ℕ → ℕ → ℕ → List ℕ → Type 0) → ℕ → ℕ → ℕ → World → Type 0
At Says x y n w = Says (pattern_at n w) (column w.machine x) (row w.machine y) w.picture

-- whatever was done between the world `one` and the world u, it left what a DXYN reads: the pattern, VX, VY and the picture
pub record Undisturbed (x y n : ℕ) (one u : World) : Type 0 where
  pub pattern : pattern_at n u ≡ pattern_at n one
  pub vx : reg u.machine x ≡ reg one.machine x
  pub vy : reg u.machine y ≡ reg one.machine y
  pub picture : u.picture ≡ one.picture

-- VF is 1 exactly if that is so, and else 0
pub record Flags (w : World) (That : Type 0) : Type 0 where
  pub one : (reg w.machine 0xF ≡ 1) ↔ That
  pub else : (That → ⊥) → reg w.machine 0xF ≡ 0

-- the DXYN at w led to `one`, and the second one to `two`: the picture is as it was, VF of the first is 1 exactly if some shown 1 bit met
-- a lit spot, and VF of the second exactly if some had met a dark one
pub record Erases (x y n : ℕ) (w one two : World) : Type 0 where
  pub picture : two.picture ≡ w.picture
  pub first : Flags one (At MeetsLit x y n w)
  pub second : Flags two (At MeetsDark x y n w)

-- ---- THE CLAIMS, proved in proofs/Twice.antt

-- for every pattern, column and row, and every picture of 256 bytes
abbrev pub DrawnTwice : Type 0
DrawnTwice =
    (pattern : List ℕ) (column row : ℕ) (picture : List ℕ) → length picture ≡ picture_size → Below 256 picture
    → PutBack pattern column row picture

-- two drawings with any patterns, columns and rows give the same picture in either order
abbrev pub EitherOrder : Type 0
EitherOrder =
    (p q : List ℕ) (column row column' row' : ℕ) (picture : List ℕ)
    → drawn q column' row' (drawn p column row picture) ≡ drawn p column row (drawn q column' row' picture)

-- two equal DXYN with X and Y other than F, whatever stands between them; N may be 0, and no edge is left out
abbrev pub DrawsTwice : Type 0
DrawsTwice =
    (x y n : ℕ) → OtherThanF x → OtherThanF y
    → (w u : World) (keys random keys' random' : ℕ) → TypedBoard (board_of w) → TypedBoard (board_of u)
    → let one = (step keys random w).world in let two = (step keys' random' u).world in
    Draws x y n w → Undisturbed x y n one u → Draws x y n u → Erases x y n w one two

-- and where nothing stands between them, since a DXYN leaves I, memory, VX and VY; then the state's number of lit spots comes back too,
-- true or not
abbrev pub DrawsAgain : Type 0
DrawsAgain =
    (x y n : ℕ) → OtherThanF x → OtherThanF y
    → (w : World) (keys random keys' random' : ℕ) → TypedBoard (board_of w)
    → let one = (step keys random w).world in let two = (step keys' random' one).world in
    Draws x y n w → Draws x y n one → Erases x y n w one two × (two.machine.lit ≡ w.machine.lit)
