-- What a call leaves of an image that stands for a machine, and of the buffers beside it: its refusal number, 0 for done, and every byte.
use Rattle.std.specs.Prelude.{◌≡◌, Bool, true, List, ℕ, length, eqb, leb}
use Rattle.rules.specs.declared.Edition.TheVariants.{First}
use Rattle.rules.specs.declared.Refusal.TheVariants.{BufferLength, Unsound}
use Rattle.rules.specs.Number.{pick, unless}
use Rattle.rules.specs.Refusal.{number_of}
use Rattle.rules.specs.World.{World, Answer, world, sizes_fit}
use Rattle.rules.specs.Load.{fresh_world, load}
use Rattle.rules.specs.Call.{step, tick, back, forward}
use Rattle.rules.specs.Run.{run, run_refusal, play, play_refusal}
use Rattle.rules.specs.Typed.{Below}
use Rattle.image.specs.Image.{image_size, image_of, edition_of, machine_of, trail_of}

pub record Card : Type 0 where
  pub refusal : ℕ
  pub image : List ℕ
  pub memory : List ℕ
  pub picture : List ℕ
  pub history : List ℕ

-- the world that an image and the buffers beside it stand for
abbrev pub world_of : List ℕ → List ℕ → List ℕ → List ℕ → World
world_of image memory picture history = world (machine_of image) (trail_of image) memory picture history

-- what a call answered; the image is written anew where `anew` says so, and else left
abbrev pub shown : Bool → List ℕ → Answer → Card
shown anew image a =
    record {
      refusal = a.refusal;
      image = pick anew (image_of a.world.machine a.world.trail) image;
      memory = a.world.memory;
      picture = a.world.picture;
      history = a.world.history;
    }

-- a load of the edition that a byte names: where it names none that is 10, between 9 and 8, and the fresh state is of the first edition
abbrev pub load_by : ℕ → ℕ → List ℕ → List ℕ → List ℕ → List ℕ → Answer
load_by edition end program memory picture history =
    pick (leb edition 1) (load (edition_of edition) end program memory picture history)
    (record {
      refusal = unless (sizes_fit memory picture history) (number_of BufferLength) (number_of Unsound);
      world = fresh_world First end memory picture history;
    })

-- an accepted call writes the image
abbrev pub whole : List ℕ → Answer → Card
whole image a = shown (eqb a.refusal 0) image a

-- a run and a play that pass their own tests, 9 and 10, write it, whatever ends them
abbrev pub ran_on : List ℕ → List ℕ → List ℕ → List ℕ → List ℕ → List ℕ → List ℕ → Card
ran_on ticks keys randoms image memory picture history =
    let w = world_of image memory picture history in
    shown (eqb (run_refusal ticks keys randoms w) 0) image (run ticks keys randoms w).answer

abbrev pub played_on : List ℕ → List ℕ → List ℕ → List ℕ → List ℕ → List ℕ → List ℕ → Card
played_on moves keys randoms image memory picture history =
    let w = world_of image memory picture history in
    shown (eqb (play_refusal moves keys randoms w) 0) image (play moves keys randoms w)

-- ---- the promise: what a call leaves is what the definition says, part by part

pub record Leaves (c : Card) (n : ℕ) (img mem pic his : List ℕ) : Type 0 where
  pub says : n ≡ c.refusal
  pub image : img ≡ c.image
  pub memory : mem ≡ c.memory
  pub picture : pic ≡ c.picture
  pub history : his ≡ c.history

-- ---- THE CLAIM, proved in proofs/Chains.antt: calls on an image follow one another as calls on a state do. Where the image has its size
-- and all that is lent is bytes, the image and the buffers after a call stand for the world that the rules' call gives.

pub record Lent (img mem pic his : List ℕ) : Type 0 where
  pub size : length img ≡ image_size
  pub image : Below 256 img
  pub memory : Below 256 mem
  pub picture : Below 256 pic
  pub history : Below 256 his

abbrev pub standing : Card → World
standing c = world_of c.image c.memory c.picture c.history

pub record Chains (img mem pic his : List ℕ) : Type 0 where
  pub load : (edition end : ℕ) (program : List ℕ) → let a = load_by edition end program mem pic his in standing (shown true img a) ≡ a.world
  pub step : (keys random : ℕ) → let a = step keys random (world_of img mem pic his) in standing (whole img a) ≡ a.world
  pub tick : let a = tick (world_of img mem pic his) in standing (whole img a) ≡ a.world
  pub back : let a = back (world_of img mem pic his) in standing (whole img a) ≡ a.world
  pub forward : let a = forward (world_of img mem pic his) in standing (whole img a) ≡ a.world
  pub run : (ticks keys randoms : List ℕ) → standing (ran_on ticks keys randoms img mem pic his)
      ≡ (run ticks keys randoms (world_of img mem pic his)).answer.world
  pub play : (moves keys randoms : List ℕ) → standing (played_on moves keys randoms img mem pic his)
      ≡ (play moves keys randoms (world_of img mem pic his)).world
