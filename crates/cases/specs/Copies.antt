-- A worked case of Q-13, computed: A300, 611E, F155, D015 at the bottom edge, 00E0, F033 and F00A three times, with ticks between them, until
-- 0000 ends the run. It copies 2, 16, 256 and 3 bytes, by the rules and in the count fields of its records.
use Rattle.std.specs.Prelude.{◌&&◌, List, [], ◌∷◌, ℕ, ◌*◌, replicate, T, eqb}
use Rattle.rules.specs.declared.Edition.TheVariants.{First}
use Rattle.rules.specs.State.{memory_size, picture_size, start_address, fresh}
use Rattle.rules.specs.Instruction.{decode}
use Rattle.rules.specs.Picture.{drawn, darkened, lit_first, lit_spots}
use Rattle.rules.specs.Memory.{over}
use Rattle.rules.specs.Step.{refusal_of, lit_after, lit_refusal, change_of, after}
use Rattle.rules.specs.Record.{place_size, record_with}
use Rattle.rules.specs.World.{World, world}
use Rattle.rules.specs.Load.{fresh_trail}
use Rattle.rules.specs.Call.{step_refusal, stepped, step, ticked}
use Rattle.rules.specs.Run.{run_from, run_refusal, total_from, total, run}
use Rattle.rules.specs.Copied.{copied_of, step_copied, run_copied, ticks_wrote, run_wrote_from, run_wrote}

abbrev start : World
start =
    let program : List ℕ = 0xA3 ∷ 0x00 ∷ 0x61 ∷ 0x1E ∷ 0xF1 ∷ 0x55 ∷ 0xD0 ∷ 0x15 ∷ 0x00 ∷ 0xE0 ∷ 0xF0 ∷ 0x33 ∷ 0xF0 ∷ 0x0A ∷ [] in
    world (fresh First memory_size) fresh_trail (over (replicate memory_size 0) start_address program 14) (replicate picture_size 0) (replicate (2 * place_size) 0)

abbrev ticks : List ℕ
ticks = 0 ∷ 1 ∷ 0 ∷ 2 ∷ 0 ∷ 0 ∷ 3 ∷ 0 ∷ 0 ∷ 5 ∷ []

-- key 3 goes down at the second F00A, and up at the third
abbrev keys : List ℕ
keys = 0 ∷ 0 ∷ 0 ∷ 0 ∷ 0 ∷ 0 ∷ 0 ∷ 8 ∷ 0 ∷ 0 ∷ []

abbrev randoms : List ℕ
randoms = replicate 10 0

copies : T (eqb (run ticks keys randoms start).accepted 9 && eqb (run_copied ticks keys randoms start) 277 && eqb (run_wrote ticks keys randoms start) 277)
unfolding decode drawn darkened lit_first lit_spots refusal_of lit_after lit_refusal change_of after record_with step step_refusal stepped ticked run_from run_refusal run total total_from copied_of step_copied ticks_wrote run_wrote_from run_wrote
copies = tt
