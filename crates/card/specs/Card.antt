-- What each call of the boundary leaves: its refusal number, 0 for done, the image, and every lent byte.
use Rattle.std.specs.Prelude.{◌≡◌, Bool, true, ◌&&◌, List, ℕ, length, eqb}
use Rattle.rules.specs.declared.Refusal.TheVariants.{BufferLength}
use Rattle.rules.specs.Number.{pick, unless}
use Rattle.rules.specs.Refusal.{number_of}
use Rattle.rules.specs.Call.{step, tick, back, forward}
use Rattle.rules.specs.Run.{run}
use Rattle.rules.specs.Dark.{step_dark, run_dark}
use Rattle.rules.specs.Copied.{run_copied}
use Rattle.rules.specs.State.{sound}
use Rattle.page_spots.specs.Page.{PageOf}
use Rattle.stepper.specs.Dock.{draw_refusal, page_after}
use Rattle.stepper.specs.Dock.{fits as pageFits}
use Rattle.turning.specs.Turn.{turn_refusal, rows_after, bytes_after}
use Rattle.panel.specs.Panel.{fits, panel_refusal, panel_after, PanelOf}
use Rattle.image.specs.Image.{image_size, machine_of, trail_of}
use Rattle.imaged.specs.Imaged.{Card, world_of, shown, load_by, whole, ran_on, played_on}
use Rattle.imaged_salvage.specs.Salvaged.{salvage_of}
use Rattle.imaged_plain.specs.PlainOn.{PlainCard, plain_of, plain_on}
use Rattle.salvage.specs.Salvage.{Salvage, refused}

abbrev pub sized : List ℕ → Bool
sized image = eqb (length image) image_size

-- the number and everything else as it came
abbrev pub untouched : ℕ → List ℕ → List ℕ → List ℕ → List ℕ → Card
untouched n image memory picture history =
    record { refusal = n; image = image; memory = memory; picture = picture; history = history }

-- ---- the calls; an image, or an answer, of a wrong length is 9

-- a load leaves the fresh image, refused or not
unfoldable pub card_load : List ℕ → ℕ → ℕ → List ℕ → List ℕ → List ℕ → List ℕ → Card
card_load program edition end image memory picture history =
    pick (sized image) (shown true image (load_by edition end program memory picture history))
    (untouched (number_of BufferLength) image memory picture history)

unfoldable pub card_step : ℕ → ℕ → Bool → List ℕ → List ℕ → List ℕ → List ℕ → Card
card_step keys random answers image memory picture history =
    pick (sized image && answers) (whole image (step keys random (world_of image memory picture history)))
    (untouched (number_of BufferLength) image memory picture history)

unfoldable pub card_tick : List ℕ → List ℕ → List ℕ → List ℕ → Card
card_tick image memory picture history =
    pick (sized image) (whole image (tick (world_of image memory picture history)))
    (untouched (number_of BufferLength) image memory picture history)

unfoldable pub card_back : List ℕ → List ℕ → List ℕ → List ℕ → Card
card_back image memory picture history =
    pick (sized image) (whole image (back (world_of image memory picture history)))
    (untouched (number_of BufferLength) image memory picture history)

unfoldable pub card_forward : List ℕ → List ℕ → List ℕ → List ℕ → Card
card_forward image memory picture history =
    pick (sized image) (whole image (forward (world_of image memory picture history)))
    (untouched (number_of BufferLength) image memory picture history)

unfoldable pub card_run : List ℕ → List ℕ → List ℕ → Bool → List ℕ → List ℕ → List ℕ → List ℕ → Card
card_run ticks keys randoms answers image memory picture history =
    pick (sized image && answers) (ran_on ticks keys randoms image memory picture history)
    (untouched (number_of BufferLength) image memory picture history)

unfoldable pub card_play : List ℕ → List ℕ → List ℕ → List ℕ → List ℕ → List ℕ → List ℕ → Card
card_play moves keys randoms image memory picture history =
    pick (sized image) (played_on moves keys randoms image memory picture history)
    (untouched (number_of BufferLength) image memory picture history)

-- a salvage takes neither memory nor picture
unfoldable pub card_salvage : Bool → List ℕ → List ℕ → List ℕ → Salvage
card_salvage answers image history list =
    pick (sized image && answers) (salvage_of image history list) (refused (number_of BufferLength) (trail_of image) history list)

-- a run of the plain engine takes spots for the picture, and no history
unfoldable pub card_plain : List ℕ → List ℕ → List ℕ → Bool → List ℕ → List ℕ → List ℕ → PlainCard
card_plain ticks keys randoms answers image memory spots =
    pick (sized image && answers) (plain_on ticks keys randoms image memory spots)
    (record { refusal = number_of BufferLength; image = image; memory = memory; spots = spots })

-- ---- the answer's four numbers. Of a step and a run: how many steps were accepted, how many spots they darkened, how many bytes the records of
-- a run keep, and one that is kept for what is to come. Of a salvage: how many records are kept, how many places cleared, and two zeros. Of a
-- run of the plain engine: how many steps were accepted, and three zeros

unfoldable pub step_went_dark : List ℕ → List ℕ → List ℕ → List ℕ → ℕ
step_went_dark image memory picture history = pick (sized image) (step_dark (world_of image memory picture history)) 0

unfoldable pub run_accepted : List ℕ → List ℕ → List ℕ → List ℕ → List ℕ → List ℕ → List ℕ → ℕ
run_accepted ticks keys randoms image memory picture history =
    pick (sized image) (run ticks keys randoms (world_of image memory picture history)).accepted 0

unfoldable pub run_went_dark : List ℕ → List ℕ → List ℕ → List ℕ → List ℕ → List ℕ → List ℕ → ℕ
run_went_dark ticks keys randoms image memory picture history =
    pick (sized image) (run_dark ticks keys randoms (world_of image memory picture history)) 0

unfoldable pub run_has_copied : List ℕ → List ℕ → List ℕ → List ℕ → List ℕ → List ℕ → List ℕ → ℕ
run_has_copied ticks keys randoms image memory picture history =
    pick (sized image) (run_copied ticks keys randoms (world_of image memory picture history)) 0

unfoldable pub plain_accepted : List ℕ → List ℕ → List ℕ → List ℕ → List ℕ → List ℕ → ℕ
plain_accepted ticks keys randoms image memory spots = pick (sized image) (plain_of ticks keys randoms image memory spots).accepted 0

-- ---- the promises of the page, of the panel and of the two turnings

-- what the page leaves, for which the image is only read: its number, every byte, and of a page that is drawn every spot
pub record LeavesPage (n : ℕ) (image before after : List ℕ) : Type 0 where
  pub says : n ≡ unless (sized image) (number_of BufferLength) (draw_refusal (machine_of image) before)
  pub bytes : after ≡ pick (sized image) (page_after (machine_of image) before) before
  pub spots : (sized image && pageFits before && sound (machine_of image)) ≡ true → PageOf (machine_of image) after

-- what the panel leaves, which is lent no image: its number, every byte, and of a panel that is filled every dot
pub record LeavesPanel (n : ℕ) (picture before after : List ℕ) : Type 0 where
  pub says : n ≡ panel_refusal picture before
  pub bytes : after ≡ panel_after picture before
  pub dots : fits picture before ≡ true → PanelOf picture after

-- what the turnings leave, which are lent no image either: the number, and every row or every byte
pub record LeavesRows (n : ℕ) (picture before after : List ℕ) : Type 0 where
  pub says : n ≡ turn_refusal picture before
  pub rows : after ≡ rows_after picture before

pub record LeavesBytes (n : ℕ) (rows before after : List ℕ) : Type 0 where
  pub says : n ≡ turn_refusal before rows
  pub bytes : after ≡ bytes_after rows before
