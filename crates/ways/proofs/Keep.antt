-- The bytes that a step's record is written of are there: a change in memory lies in it, and one in the picture is of whole rows.
use mathlib.Core.Path.{◌≡◌, refl}
use mathlib.Core.List.{List}
use Prim.Native.Nat.{ℕ, ◌*◌, ◌%◌, ◌≤◌}
use native.Mathlib.Omega.{arith}
use lib.Dec.{eqb}
use lib.ListN.{length}
use Rattle.rules.specs.declared.Machine.{Machine}
use Rattle.rules.specs.declared.Change.{Change}
use Rattle.rules.specs.declared.Change.TheVariants.{Nothing, InMemory, InPicture}
use Rattle.rules.specs.declared.Op.{Op}
use Rattle.rules.specs.declared.Op.TheVariants.{Plain, AwaitKey, Call, Return, Clear, Draw, Decimal, Store, Fetch}
use Rattle.rules.specs.declared.Op.TheVariants.{Unlisted, MachineCode}
use Rattle.rules.specs.Step.{change_of}
use Rattle.rules.proofs.Choices.{choice}
use Rattle.rules.proofs.Undo.{Fits}
use Rattle.keeping.specs.Writable.{Reaches}

-- in the picture, whole rows
abbrev Whole : Change → Type 0
Whole Nothing = Unit {0}
Whole (InMemory s n) = Unit {0}
Whole (InPicture s n) = (s % 8 ≡ 0) × (n % 8 ≡ 0)

eights : (k : ℕ) → 8 * k % 8 ≡ 0
eights k = omega arith

whole_rows : (op : Op) (m : Machine) → Whole (change_of op m)
unfolding change_of
whole_rows (Plain s) m = tt
whole_rows (AwaitKey x) m = tt
whole_rows (Call a) m = tt
whole_rows Return m = tt
whole_rows Clear m = (refl, refl)
whole_rows (Draw x y n) m = choice Whole (eqb n 0) tt (eights _, eights _)
whole_rows (Decimal x) m = tt
whole_rows (Store x) m = tt
whole_rows (Fetch x) m = tt
whole_rows Unlisted m = tt
whole_rows MachineCode m = tt

pub reaches : (memory rows : List ℕ) → length memory ≡ 4096 → length rows ≡ 32 → (op : Op) (m : Machine) → m.end ≤ 4096
    → Fits m.end (change_of op m) → Reaches (change_of op m) memory rows
reaches memory rows sized rows-sized op m most fits = go (change_of op m) fits (whole_rows op m)
  where
    go : (c : Change) → Fits m.end c → Whole c → Reaches c memory rows
    go Nothing f w = tt
    go (InMemory s n) f w = (omega (arith, f.1), omega (arith, f.2, most, sized))
    go (InPicture s n) f w = (w.0, w.1, f.2, rows-sized)
