-- The worked cases of request Q-12: short histories, what a salvage gives of each, and one statement that it does.
use Rattle.std.specs.Prelude.{Bool, true, ◌&&◌, List, [], ◌∷◌, ◌++◌, ℕ, ◌+◌, ◌-◌, ◌*◌, length, drop, replicate, T, eqb}
use Rattle.rules.specs.declared.Action.TheVariants.{Tick}
use Rattle.rules.specs.declared.Change.TheVariants.{Nothing, InMemory}
use Rattle.rules.specs.declared.Edition.TheVariants.{First}
use Rattle.rules.specs.declared.Machine.{Machine}
use Rattle.rules.specs.declared.Trail.{Trail}
use Rattle.rules.specs.Number.{pick, same}
use Rattle.rules.specs.State.{memory_size, small_end, stack_size, fresh, with_stack}
use Rattle.rules.specs.Memory.{over}
use Rattle.rules.specs.Record.{place_size, record_with}
use Rattle.salvage_row.specs.Row.{row}
use Rattle.salvage_places.specs.Places.{others_from}
use Rattle.salvage_places.specs.Cleared.{cleared}
use Rattle.salvage_places.specs.Listed.{entries}
use Rattle.salvage.specs.Salvage.{Salvage, salvage_refusal, salvage}

-- what stands in a place: the record of a tick at a depth, the same with one bit worn, or zeros
data Place : Type 0 where
  tick : ℕ → Place
  worn : ℕ → Place
  clear : Place

-- next, kept and ahead
data Numbers : Type 0 where
  numbers : ℕ → ℕ → ℕ → Numbers

-- an entry of the report: a place, and as what it had counted
data Entry : Type 0 where
  was_kept : ℕ → Entry
  was_ahead : ℕ → Entry
  was_free : ℕ → Entry

-- the present depth, the numbers and the places before; then the records kept, the places after and the report
data Case : Type 0 where
  case : ℕ → Numbers → List Place → ℕ → List Place → List Entry → Case

-- the present depth, the numbers, how many bytes the history and how many numbers the list has; then the refusal
data Test : Type 0 where
  test : ℕ → Numbers → ℕ → ℕ → ℕ → Test

cases : List Case
cases =
    -- one worn record in the middle: what is older than it goes too
    case 0 (numbers 5 4 0) (tick 0 ∷ tick 0 ∷ worn 0 ∷ tick 0 ∷ tick 0 ∷ tick 0 ∷ [])
    2 (clear ∷ clear ∷ clear ∷ tick 0 ∷ tick 0 ∷ clear ∷ []) (was_free 0 ∷ was_kept 1 ∷ was_kept 2 ∷ was_free 5 ∷ [])
    -- the newest is worn
    ∷ case 0 (numbers 0 2 0) (tick 0 ∷ worn 0 ∷ []) 0 (clear ∷ clear ∷ []) (was_kept 0 ∷ was_kept 1 ∷ [])
    -- a record that is sound and not kept
    ∷ case 0 (numbers 2 1 0) (tick 0 ∷ tick 0 ∷ clear ∷ []) 1 (clear ∷ tick 0 ∷ clear ∷ []) (was_free 0 ∷ was_free 2 ∷ [])
    -- each depth is one away from the next newer one, and the last of them three away from the present one
    ∷ case 0 (numbers 0 3 0) (tick 3 ∷ tick 2 ∷ tick 1 ∷ []) 3 (tick 3 ∷ tick 2 ∷ tick 1 ∷ []) []
    -- the last is two away from the next newer one, and one away from the present one
    ∷ case 2 (numbers 0 3 0) (tick 3 ∷ tick 1 ∷ tick 2 ∷ []) 2 (clear ∷ tick 1 ∷ tick 2 ∷ []) (was_kept 0 ∷ [])
    -- nothing is kept
    ∷ case 0 (numbers 1 0 0) (tick 0 ∷ tick 0 ∷ []) 0 (clear ∷ clear ∷ []) (was_free 0 ∷ was_free 1 ∷ [])
    -- what is ahead is cleared, sound or not, over the last place and on
    ∷ case 0 (numbers 4 2 2) (tick 0 ∷ tick 0 ∷ tick 0 ∷ tick 0 ∷ worn 0 ∷ [])
    2 (clear ∷ clear ∷ tick 0 ∷ tick 0 ∷ clear ∷ []) (was_ahead 0 ∷ was_free 1 ∷ was_ahead 4 ∷ [])
    -- the kept ones go over the last place and on
    ∷ case 0 (numbers 1 3 1) (tick 0 ∷ tick 0 ∷ worn 0 ∷ tick 0 ∷ []) 2 (tick 0 ∷ clear ∷ clear ∷ tick 0 ∷ []) (was_ahead 1 ∷ was_kept 2 ∷ [])
    -- one place
    ∷ case 0 (numbers 0 1 0) (tick 0 ∷ []) 1 (tick 0 ∷ []) []
    ∷ case 0 (numbers 0 1 0) (worn 0 ∷ []) 0 (clear ∷ []) (was_kept 0 ∷ [])
    ∷ case 0 (numbers 0 0 1) (tick 0 ∷ []) 0 (clear ∷ []) (was_ahead 0 ∷ [])
    ∷ []

tests : List Test
tests =
    -- two numbers for each of two places, and one less
    test 0 (numbers 0 0 0) 584 4 0
    ∷ test 0 (numbers 0 0 0) 584 3 9
    -- a history of no place
    ∷ test 0 (numbers 0 0 0) 291 4 9
    -- next is R, kept plus ahead is R + 1, the depth is 13
    ∷ test 0 (numbers 2 0 0) 584 4 10
    ∷ test 0 (numbers 0 1 2) 584 4 10
    ∷ test 13 (numbers 0 0 0) 584 4 10
    -- 9 comes before 10
    ∷ test 13 (numbers 0 0 0) 584 3 9
    ∷ []

-- ---- how they are read

-- a state at a depth, with as many return addresses
abbrev at : ℕ → Machine
at d = with_stack (replicate d 0x0300 ++ replicate (stack_size - d) 0) d (fresh First memory_size)

abbrev trail : Numbers → Trail
trail (numbers next kept ahead) = record { next = next; kept = kept; ahead = ahead }

abbrev written : ℕ → List ℕ
written d = record_with (at d) Nothing [] Tick

abbrev bytes : Place → List ℕ
bytes (tick d) = written d
bytes (worn d) = over (written d) 0 (0x6E ∷ []) 1
bytes clear = replicate place_size 0

-- three bytes stand after the last place
abbrev history : List Place → List ℕ
history [] = 1 ∷ 2 ∷ 3 ∷ []
history (p ∷ ps) = bytes p ++ history ps

-- a list with one number more than it needs
abbrev lent : List Place → List ℕ
lent ps = replicate (2 * length ps + 1) 7

abbrev report : List Entry → List ℕ
report [] = []
report (was_kept p ∷ es) = p ∷ 0 ∷ report es
report (was_ahead p ∷ es) = p ∷ 1 ∷ report es
report (was_free p ∷ es) = p ∷ 2 ∷ report es

-- the same places, all as free
abbrev freed : List Entry → List Entry
freed [] = []
freed (was_kept p ∷ es) = was_free p ∷ freed es
freed (was_ahead p ∷ es) = was_free p ∷ freed es
freed (was_free p ∷ es) = was_free p ∷ freed es

abbrev is : Trail → Trail → Bool
is t u = eqb t.next u.next && eqb t.kept u.kept && eqb t.ahead u.ahead

abbrev gives : Salvage → ℕ → ℕ → ℕ → Trail → List ℕ → List ℕ → Bool
gives s refusal k c t h l =
    eqb s.refusal refusal && eqb s.kept k && eqb s.cleared c && is s.trail t && same s.history h && same s.list l

-- what an accepted call gives: so many records kept, these places after it, and this report in front of the list
abbrev told : ℕ → List Place → List Entry → Trail → Salvage → Bool
told k after es t s = gives s 0 k (length es) t (history after) (report es ++ drop (length (report es)) (lent after))

-- it, and a second call on what it gave
abbrev comes : Case → Bool
comes (case d ns before k after es) =
    let t = trail ns in
    let still : Trail = record { next = t.next; kept = k; ahead = 0 } in
    let s = salvage (at d) t (history before) (lent before) in
    told k after es still s && told k after (freed es) still (salvage (at d) s.trail s.history (lent before))

-- a refused call reports 0 and 0 and hands back what came; one that is accepted is told by its number alone
abbrev passes : Test → Bool
passes (test d ns size room refusal) =
    let h : List ℕ = replicate size 0xAA in
    let l : List ℕ = replicate room 7 in
    let s = salvage (at d) (trail ns) h l in
    pick (eqb refusal 0) (eqb s.refusal 0) (gives s refusal 0 0 (trail ns) h l)

abbrev all : {A : Type 0} → (A → Bool) → List A → Bool
all f [] = true
all f (x ∷ xs) = f x && all f xs

-- how many records a salvage keeps of a history of one, which changes three bytes of memory from an address on, beside a state of that end (Q-14)
abbrev keeps : ℕ → ℕ → ℕ
keeps e s =
    let m = fresh First e in
    (salvage m (trail (numbers 0 1 0)) (record_with m (InMemory s 3) (replicate 3 0x55) Tick) (replicate 2 7)).kept

-- ---- THE CASES COME OUT SO

come : T
    (all comes cases && all passes tests
    && eqb (keeps small_end 0x069D) 1 && eqb (keeps small_end 0x069E) 0 && eqb (keeps memory_size 0x069E) 1)
unfolding cases tests record_with row others_from cleared entries salvage_refusal salvage
come = tt
