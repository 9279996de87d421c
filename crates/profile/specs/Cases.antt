-- The worked cases of Q-14 at the end 06A0, both sides of each edge, with the same at 4,096 beside them: a table of steps, read as the rules
-- read theirs, one of loads and one of steps back; and one statement that each of them holds.
use Rattle.std.specs.Prelude.{Bool, true, ◌&&◌, List, [], ◌∷◌, ℕ, replicate, T, eqb}
use Rattle.rules.specs.declared.Action.TheVariants.{Tick}
use Rattle.rules.specs.declared.Change.TheVariants.{InMemory}
use Rattle.rules.specs.declared.Edition.TheVariants.{First}
use Rattle.rules.specs.State.{memory_size, picture_size, fresh}
use Rattle.rules.specs.Instruction.{decode}
use Rattle.rules.specs.Picture.{drawn, darkened, lit_first, lit_spots}
use Rattle.rules.specs.Step.{refusal_of, lit_after, lit_refusal, change_of, after}
use Rattle.rules.specs.Record.{place_size, record_with}
use Rattle.rules.specs.World.{World, world}
use Rattle.rules.specs.Load.{load, load_refusal, loaded_memory}
use Rattle.rules.specs.Call.{step, step_refusal, stepped, back, back_refusal, undone}
use Rattle.cases.specs.Case.{Case, case, v, i, pc, bytes, shows, lit, end, begins, every}

steps : List Case
steps =
    -- 1: the last instruction ends at 06A0
    case 0x0000 0 (end 0x06A0 ∷ pc 0x069E ∷ bytes 0x069E (0x60 ∷ 0x01 ∷ []) ∷ []) (v 0x0 0x01 ∷ pc 0x06A0 ∷ end 0x06A0 ∷ [])
    ∷ case 0x0000 1 (end 0x06A0 ∷ pc 0x069F ∷ bytes 0x069F (0x60 ∷ 0x01 ∷ []) ∷ []) (v 0x0 0x00 ∷ pc 0x069F ∷ end 0x06A0 ∷ [])
    ∷ case 0x0000 0 (pc 0x069F ∷ bytes 0x069F (0x60 ∷ 0x01 ∷ []) ∷ []) (v 0x0 0x01 ∷ pc 0x06A1 ∷ end 0x1000 ∷ [])
    -- no jump is refused for its target, and the next step is
    ∷ case 0xB69F 0 (end 0x06A0 ∷ v 0x0 0x01 ∷ []) (pc 0x06A0 ∷ [])
    ∷ case 0xBFFF 0 (end 0x06A0 ∷ v 0x0 0xFF ∷ []) (pc 0x10FE ∷ [])
    ∷ case 0x0000 1 (end 0x06A0 ∷ pc 0x06A0 ∷ []) (pc 0x06A0 ∷ [])
    ∷ case 0x0000 1 (end 0x06A0 ∷ pc 0x10FE ∷ []) (pc 0x10FE ∷ [])
    -- 6: what an instruction needs ends at 06A0
    ∷ case 0xF033 0 (end 0x06A0 ∷ v 0x0 0xFE ∷ i 0x069D ∷ []) (bytes 0x069D (2 ∷ 5 ∷ 4 ∷ 0 ∷ []) ∷ [])
    ∷ case 0xF033 6 (end 0x06A0 ∷ v 0x0 0xFE ∷ i 0x069E ∷ []) (bytes 0x069E (0 ∷ 0 ∷ 0 ∷ []) ∷ [])
    ∷ case 0xF033 0 (v 0x0 0xFE ∷ i 0x069E ∷ []) (bytes 0x069E (2 ∷ 5 ∷ 4 ∷ []) ∷ [])
    ∷ case 0xF155 0 (end 0x06A0 ∷ i 0x069E ∷ []) (i 0x06A0 ∷ [])
    ∷ case 0xF155 6 (end 0x06A0 ∷ i 0x069F ∷ []) (i 0x069F ∷ [])
    ∷ case 0xF165 0 (end 0x06A0 ∷ i 0x069E ∷ bytes 0x069E (7 ∷ 8 ∷ []) ∷ []) (v 0x0 0x07 ∷ v 0x1 0x08 ∷ i 0x06A0 ∷ [])
    ∷ case 0xF165 6 (end 0x06A0 ∷ i 0x069F ∷ bytes 0x069F (7 ∷ 8 ∷ []) ∷ []) (v 0x0 0x00 ∷ i 0x069F ∷ [])
    ∷ case 0xD012 0 (end 0x06A0 ∷ i 0x069E ∷ bytes 0x069E (0xC0 ∷ 0x00 ∷ []) ∷ []) (shows (begins (0xC0 ∷ [])) ∷ lit 2 ∷ [])
    ∷ case 0xD012 6 (end 0x06A0 ∷ i 0x069F ∷ bytes 0x069F (0xC0 ∷ 0x00 ∷ []) ∷ []) (shows (begins []) ∷ lit 0 ∷ [])
    ∷ case 0xD010 0 (end 0x06A0 ∷ i 0xFFFF ∷ []) (shows (begins []) ∷ [])
    -- 10: an end that is not in use
    ∷ case 0x6001 10 (end 0x0200 ∷ []) (v 0x0 0x00 ∷ end 0x0200 ∷ [])
    ∷ case 0x6001 10 (end 0x069F ∷ []) (v 0x0 0x00 ∷ [])
    ∷ case 0x6001 10 (end 0x0800 ∷ []) (v 0x0 0x00 ∷ [])
    ∷ case 0x6001 10 (end 0x1001 ∷ []) (v 0x0 0x00 ∷ [])
    ∷ []

-- a load: how many bytes the program and memory have, the end, the refusal or 0, and the end that is handed back
data Load : Type 0 where
  loads : ℕ → ℕ → ℕ → ℕ → ℕ → Load

loadings : List Load
loadings =
    -- 8: a program fills memory up to its end
    loads 1 4096 0x06A0 0 0x06A0
    ∷ loads 1184 4096 0x06A0 0 0x06A0
    ∷ loads 1185 4096 0x06A0 8 0x06A0
    ∷ loads 0 4096 0x06A0 8 0x06A0
    ∷ loads 3584 4096 0x1000 0 0x1000
    ∷ loads 3585 4096 0x1000 8 0x1000
    -- 10 is between 9 and 8
    ∷ loads 1 4096 0x0800 10 0x1000
    ∷ loads 0 4096 0x069F 10 0x1000
    ∷ loads 1 4095 0x069F 9 0x1000
    -- lent memory still has 4,096 bytes
    ∷ loads 1 1696 0x06A0 9 0x06A0
    ∷ []

-- a step back: the end, where the record's change of memory starts, how many bytes it has, and the refusal or 0
data Back : Type 0 where
  backs : ℕ → ℕ → ℕ → ℕ → Back

goings : List Back
goings =
    -- 11: a record's bytes end at the end
    backs 0x06A0 0x069D 3 0
    ∷ backs 0x06A0 0x069E 3 11
    ∷ backs 0x1000 0x069E 3 0
    ∷ backs 0x1000 0x0FFD 3 0
    ∷ backs 0x1000 0x0FFE 3 11
    ∷ []

-- ---- how they are read

-- whether a load comes out so
abbrev load_holds : Load → Bool
load_holds (loads program memory e refusal handed) =
    let a = load First e (replicate program 0x12) (replicate memory 0x34) (replicate picture_size 0) (replicate place_size 0) in
    eqb a.refusal refusal && eqb a.world.machine.end handed

-- a fresh state of that end, beside the record of a tick that changed n bytes of memory from s on
abbrev recorded : ℕ → ℕ → ℕ → World
recorded e s n =
    let m = fresh First e in
    world m (record { next = 0; kept = 1; ahead = 0 }) (replicate memory_size 0) (replicate picture_size 0)
    (record_with m (InMemory s n) (replicate n 0x55) Tick)

-- and whether a step back onto it does
abbrev back_holds : Back → Bool
back_holds (backs e s n refusal) = eqb (back (recorded e s n)).refusal refusal

abbrev all : {A : Type 0} → (A → Bool) → List A → Bool
all f [] = true
all f (x ∷ xs) = f x && all f xs

-- ---- THE CASES HOLD

cases : T (every steps && all load_holds loadings && all back_holds goings)
unfolding steps loadings goings decode drawn darkened lit_first lit_spots refusal_of lit_after lit_refusal change_of after record_with step step_refusal stepped load load_refusal loaded_memory back back_refusal undone
cases = tt
