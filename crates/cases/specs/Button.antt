-- The worked cases of Q-7, the button with two ends: walks over a short history, and one statement that each of them goes so.
use Rattle.std.specs.Prelude.{Bool, true, ◌&&◌, List, [], ◌∷◌, ℕ, ◌*◌, replicate, T, eqb}
use Rattle.rules.specs.declared.Edition.TheVariants.{First}
use Rattle.rules.specs.Number.{same}
use Rattle.rules.specs.State.{memory_size, picture_size, start_address, fresh, reg}
use Rattle.rules.specs.Instruction.{decode}
use Rattle.rules.specs.Picture.{lit_first, lit_spots}
use Rattle.rules.specs.Memory.{part, over}
use Rattle.rules.specs.Record.{place_size, at_keys, record_with}
use Rattle.rules.specs.Step.{refusal_of, lit_after, lit_refusal, change_of, after}
use Rattle.rules.specs.World.{World, world}
use Rattle.rules.specs.Load.{fresh_trail}
use Rattle.rules.specs.Call.{step, step_refusal, stepped, tick, tick_refusal, ticked, back, back_refusal, undone}
use Rattle.rules.specs.Call.{forward, forward_refusal, redone}
use Rattle.rules.specs.Run.{Move, a_step, a_tick, a_back, a_forward, made}

-- a move, and what comes of it: the refusal or 0, next, kept, ahead, and V0
data Row : Type 0 where
  row : Move → ℕ → ℕ → ℕ → ℕ → ℕ → Row

-- the places of a history, and the moves; at last the four bytes that end the record at place 0
data Walk : Type 0 where
  walk : ℕ → List Row → List ℕ → Walk

-- each step adds one to V0
abbrev a_new : Move
a_new = a_step 0x8001 0x7F

walks : List Walk
walks =
    -- three back, two forward, a new step, and nothing is ahead
    walk 4
    (row a_new 0 1 1 0 1 ∷ row a_new 0 2 2 0 2 ∷ row a_new 0 3 3 0 3
    ∷ row a_back 0 2 2 1 2 ∷ row a_back 0 1 1 2 1 ∷ row a_back 0 0 0 3 0
    ∷ row a_forward 0 1 1 2 1 ∷ row a_forward 0 2 2 1 2 ∷ row a_new 0 3 3 0 3 ∷ row a_forward 12 3 3 0 3 ∷ [])
    (0x80 ∷ 0x01 ∷ 0x7F ∷ 1 ∷ [])
    -- over a tick, whose record has no inputs
    ∷ walk 2 (row a_tick 0 1 1 0 0 ∷ row a_new 0 0 2 0 1 ∷ row a_back 0 1 1 1 0 ∷ row a_back 0 0 0 2 0 ∷ row a_forward 0 1 1 1 0 ∷ row a_forward 0 0 2 0 1 ∷ [])
    (0 ∷ 0 ∷ 0 ∷ 0 ∷ [])
    -- one place
    ∷ walk 1
    (row a_forward 12 0 0 0 0 ∷ row a_new 0 0 1 0 1 ∷ row a_new 0 0 1 0 2 ∷ row a_back 0 0 0 1 1 ∷ row a_back 7 0 0 1 1
    ∷ row a_forward 0 0 1 0 2 ∷ row a_forward 12 0 1 0 2 ∷ [])
    (0x80 ∷ 0x01 ∷ 0x7F ∷ 1 ∷ [])
    -- at a history that wraps
    ∷ walk 2
    (row a_new 0 1 1 0 1 ∷ row a_new 0 0 2 0 2 ∷ row a_new 0 1 2 0 3 ∷ row a_back 0 0 1 1 2 ∷ row a_back 0 1 0 2 1 ∷ row a_back 7 1 0 2 1
    ∷ row a_forward 0 0 1 1 2 ∷ row a_forward 0 1 2 0 3 ∷ [])
    (0x80 ∷ 0x01 ∷ 0x7F ∷ 1 ∷ [])
    ∷ []

-- ---- how a walk is read

-- the world of a load of four times 7001, beside a history of so many places
abbrev start : ℕ → World
start r =
    let program : List ℕ = 0x70 ∷ 0x01 ∷ 0x70 ∷ 0x01 ∷ 0x70 ∷ 0x01 ∷ 0x70 ∷ 0x01 ∷ [] in
    world (fresh First memory_size) fresh_trail (over (replicate memory_size 0) start_address program 8) (replicate picture_size 0) (replicate (r * place_size) 0)

abbrev is : World → ℕ → ℕ → ℕ → ℕ → Bool
is w next kept ahead v0 =
    eqb w.trail.next next && eqb w.trail.kept kept && eqb w.trail.ahead ahead && eqb (reg w.machine 0) v0

abbrev goes : List Row → List ℕ → World → Bool
goes [] ends w = same (part w.history at_keys 4) ends
goes (row m refusal next kept ahead v0 ∷ rows) ends w =
    let a = made m w in
    eqb a.refusal refusal && is a.world next kept ahead v0 && goes rows ends a.world

abbrev each : List Walk → Bool
each [] = true
each (walk r rows ends ∷ ws) = goes rows ends (start r) && each ws

-- ---- THE WALKS GO SO

gone : T (each walks)
unfolding walks decode record_with lit_first lit_spots refusal_of lit_after lit_refusal change_of after step step_refusal stepped tick tick_refusal ticked back back_refusal undone forward forward_refusal redone
gone = tt
