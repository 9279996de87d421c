-- A load: it takes an edition, an end, a program and the three buffers, and no state or numbers.
use Rattle.std.specs.Prelude.{◌&&◌, List, [], ◌∷◌, ◌++◌, ℕ, ◌-◌, length, replicate, leb}
use Rattle.rules.specs.declared.Edition.{Edition}
use Rattle.rules.specs.declared.Refusal.TheVariants.{ProgramLength, BufferLength, Unsound}
use Rattle.rules.specs.declared.Trail.{Trail}
use Rattle.rules.specs.Number.{pick, unless}
use Rattle.rules.specs.Refusal.{number_of}
use Rattle.rules.specs.State.{memory_size, picture_size, start_address, fresh, end_sound}
use Rattle.rules.specs.World.{World, Answer, world, sizes_fit, answered}

-- the digits 0 to F, five bytes each
abbrev pub digits : List ℕ
digits =
    0xF0 ∷ 0x90 ∷ 0x90 ∷ 0x90 ∷ 0xF0
    ∷ 0x60 ∷ 0x20 ∷ 0x20 ∷ 0x20 ∷ 0x70
    ∷ 0xF0 ∷ 0x10 ∷ 0xF0 ∷ 0x80 ∷ 0xF0
    ∷ 0xF0 ∷ 0x10 ∷ 0xF0 ∷ 0x10 ∷ 0xF0
    ∷ 0xA0 ∷ 0xA0 ∷ 0xF0 ∷ 0x20 ∷ 0x20
    ∷ 0xF0 ∷ 0x80 ∷ 0xF0 ∷ 0x10 ∷ 0xF0
    ∷ 0xF0 ∷ 0x80 ∷ 0xF0 ∷ 0x90 ∷ 0xF0
    ∷ 0xF0 ∷ 0x10 ∷ 0x10 ∷ 0x10 ∷ 0x10
    ∷ 0xF0 ∷ 0x90 ∷ 0xF0 ∷ 0x90 ∷ 0xF0
    ∷ 0xF0 ∷ 0x90 ∷ 0xF0 ∷ 0x10 ∷ 0xF0
    ∷ 0xF0 ∷ 0x90 ∷ 0xF0 ∷ 0x90 ∷ 0x90
    ∷ 0xF0 ∷ 0x50 ∷ 0x70 ∷ 0x50 ∷ 0xF0
    ∷ 0xF0 ∷ 0x80 ∷ 0x80 ∷ 0x80 ∷ 0xF0
    ∷ 0xF0 ∷ 0x50 ∷ 0x50 ∷ 0x50 ∷ 0xF0
    ∷ 0xF0 ∷ 0x80 ∷ 0xF0 ∷ 0x80 ∷ 0xF0
    ∷ 0xF0 ∷ 0x80 ∷ 0xF0 ∷ 0x80 ∷ 0x80
    ∷ []

-- all of the lent memory, also what stands above the end
unfoldable pub loaded_memory : List ℕ → List ℕ
loaded_memory program = digits ++ replicate (start_address - 80) 0 ++ program ++ replicate (memory_size - start_address - length program) 0

-- the end that a load hands back, whatever it answers: 4,096 for one that is not in use
abbrev pub end_of : ℕ → ℕ
end_of end = pick (end_sound end) end memory_size

-- what every load hands back, accepted or not, beside the buffers
abbrev pub fresh_trail : Trail
fresh_trail = record { next = 0; kept = 0; ahead = 0 }

abbrev pub fresh_world : Edition → ℕ → List ℕ → List ℕ → List ℕ → World
fresh_world edition end memory picture history = world (fresh edition (end_of end)) fresh_trail memory picture history

abbrev pub loaded : Edition → ℕ → List ℕ → List ℕ → World
loaded edition end program history =
    fresh_world edition end (loaded_memory program) (replicate picture_size 0) (replicate (length history) 0)

-- 9, 10, then 8
unfoldable pub load_refusal : ℕ → List ℕ → List ℕ → List ℕ → List ℕ → ℕ
load_refusal end program memory picture history =
    unless (sizes_fit memory picture history) (number_of BufferLength)
    (unless (end_sound end) (number_of Unsound)
    (unless (leb 1 (length program) && leb (length program) (end - start_address)) (number_of ProgramLength)
    0))

unfoldable pub load : Edition → ℕ → List ℕ → List ℕ → List ℕ → List ℕ → Answer
load edition end program memory picture history =
    answered (load_refusal end program memory picture history) (loaded edition end program history) (fresh_world edition end memory picture history)
