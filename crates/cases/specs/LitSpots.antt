-- A worked case of Q-8, computed: a drawing took three of four lit spots away; a step back gives them back, and a step forward takes them
-- again; each with a number that just passes, and with one that does not: then all is as it came.
use Rattle.std.specs.Prelude.{Bool, ◌&&◌, List, [], ◌∷◌, ℕ, replicate, T, eqb}
use Rattle.rules.specs.declared.Edition.TheVariants.{First}
use Rattle.rules.specs.Number.{same}
use Rattle.rules.specs.State.{memory_size, start_address, fresh, with_i, with_lit}
use Rattle.rules.specs.Instruction.{decode}
use Rattle.rules.specs.Picture.{drawn, darkened, lit_first, lit_spots}
use Rattle.rules.specs.Memory.{over}
use Rattle.rules.specs.Step.{refusal_of, lit_after, lit_refusal, change_of, after}
use Rattle.rules.specs.Record.{place_size, record_with}
use Rattle.rules.specs.World.{World, Answer, world}
use Rattle.rules.specs.Load.{fresh_trail}
use Rattle.rules.specs.Call.{step, step_refusal, stepped, back, back_refusal, undone, forward, forward_refusal, redone}

abbrev shows : ℕ → List ℕ
shows b = b ∷ replicate 255 0

abbrev before : World
before =
    let memory = over (over (replicate memory_size 0) start_address (0xD0 ∷ 0x11 ∷ []) 2) 0x0300 (0x70 ∷ []) 1 in
    world (with_lit 4 (with_i 0x0300 (fresh First memory_size))) fresh_trail memory (shows 0xF0) (replicate place_size 0)

-- the same world, where somebody else wrote another number
abbrev told : ℕ → World → World
told n w = world (with_lit n w.machine) w.trail w.memory w.picture w.history

abbrev gives : Answer → ℕ → ℕ → ℕ → Bool
gives a refusal lit b = eqb a.refusal refusal && eqb a.world.machine.lit lit && same a.world.picture (shows b)

goes : T
    (let one = step 0 0 before in
    let two = back one.world in
    gives one 0 1 0x80 && gives two 0 4 0xF0
    && gives (back (told 2045 one.world)) 0 2048 0xF0 && gives (back (told 2046 one.world)) 10 2046 0x80
    && gives (forward (told 3 two.world)) 0 0 0x80 && gives (forward (told 2 two.world)) 10 2 0xF0)
unfolding decode drawn darkened lit_first lit_spots refusal_of lit_after lit_refusal change_of after record_with step step_refusal stepped back back_refusal undone forward forward_refusal redone
goes = tt
