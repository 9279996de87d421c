-- A play, move by move: what is still to be done from here gives the same answer; and from a sound start it is the plain list's.
use mathlib.Core.Path.{◌≡◌, refl, ◌∙◌}
use mathlib.Core.Bool.{true}
use mathlib.Core.List.{List}
use Prim.Native.Nat.{ℕ, ◌+◌, ◌≤◌, ◌<◌}
use native.Mathlib.Omega.{arith}
use lib.ListN.{length, drop, get_or, drop_of_length-le}
use borrow.Author.Tests.{eq-eqb, ne_eqb, le-leb, lt-ltb}
use Rattle.rules.specs.declared.Machine.{Machine}
use Rattle.rules.specs.declared.Trail.{Trail}
use Rattle.rules.specs.declared.Refusal.{Refusal}
use Rattle.std.specs.Prelude.{Err, ⊤}
use Rattle.rules.specs.Refusal.{Outcome, number, number_of}
use Rattle.rules.specs.World.{World, Answer, world, board_of, places}
use Rattle.rules.specs.Run.{unrefused, lists_fit, all_moves, moves_fit, move_of, moves_of, made, play_from, play, play_refusal}
use Rattle.rules.specs.Typed.{Below, TypedBoard}
use Rattle.rules.specs.Past.{Start, Told, follow, first}
use Rattle.rules.specs.Promise.{Gives}
use Rattle.rules.proofs.Given.{Back, tests, handed, some_number}
use Rattle.rules.proofs.StepsBack.{steps_back}
use Rattle.rules.proofs.RunsPlay.{plays_typed}
use Rattle.entries.proofs.Ticks.{gives_world}
use Rattle.running.proofs.Entries.{SameLength, drop_next}

-- ---- after i moves, with what the last one answered

pub record Playing (moves ks rs : List ℕ) (w₀ : World) (a : Answer) (i : ℕ) : Type 0 where
  pub lists : SameLength moves ks rs
  pub inside : i ≤ length moves
  pub same : play_from (moves_of (drop i moves) (drop i ks) (drop i rs)) a ≡ play_from (moves_of moves ks rs) (unrefused w₀)

module _ (moves keys randoms : List ℕ) (w₀ : World) (o : Outcome) (m : Machine) (t : Trail) (mem pic his : List ℕ) (i : ℕ) where
  -- what a call gave, as an answer
  abbrev pub gave : Answer
  gave = record { refusal = number o; world = world m t mem pic his }

  pub played : Playing moves keys randoms w₀ gave i → length moves ≤ i → Gives (play_from (moves_of moves keys randoms) (unrefused w₀)) o m t mem pic his
  unfolding play_from moves_of
  played h past =
      rw (← h.same, drop_of_length-le moves {i = i} past)
      (handed (number o) (world m t mem pic his) o refl)

  pub moved : (a : Answer) → Playing moves keys randoms w₀ a i → i < length moves
      → Gives (made (move_of (get_or moves i 0) (get_or keys i 0) (get_or randoms i 0)) a.world) o m t mem pic his
      → Playing moves keys randoms w₀ gave (i + 1)
  unfolding play_from moves_of
  moved a h more g = record { lists = h.lists; inside = omega arith; same = rw same opened }
    where
      next : Answer
      next = made (move_of (get_or moves i 0) (get_or keys i 0) (get_or randoms i 0)) a.world

      same : gave ≡ next
      same = λ j. record { refusal = g.says j; world = gives_world next o m t mem pic his g j }

      opened : play_from (moves_of (drop (i + 1) moves) (drop (i + 1) keys) (drop (i + 1) randoms)) next ≡ play_from (moves_of moves keys randoms) (unrefused w₀)
      opened =
          rw (drop_next moves i more, drop_next keys i (omega (arith, h.lists.keys)), drop_next randoms i (omega (arith, h.lists.randoms))) at h.same

-- ---- the call

module _ (moves keys randoms : List ℕ) (w : World) where
  pub play_refused : (r : Refusal) → number_of r ≡ tests w (moves_fit moves keys randoms) → Back {A = ⊤} (play moves keys randoms w) (Err r) w
  unfolding play play_refusal
  play_refused r e =
      let refusal = play_refusal moves keys randoms w in
      rw (ne_eqb refusal 0 (λ z. some_number r (e ∙ z))) (handed refusal w (Err r) e)

  pub play_admitted : tests w (moves_fit moves keys randoms) ≡ 0 → play moves keys randoms w ≡ play_from (moves_of moves keys randoms) (unrefused w)
  unfolding play play_refusal
  play_admitted e = rw (eq-eqb (play_refusal moves keys randoms w) 0 e)

  -- a sound start is admitted
  start_admitted : Start w → lists_fit moves keys randoms ≡ true → all_moves moves ≡ true → tests w (moves_fit moves keys randoms) ≡ 0
  start_admitted s lists all =
      rw (
        s.fits,
        lists,
        all,
        s.sound,
        lt-ltb w.trail.next (places w.history) s.next,
        le-leb (w.trail.kept + w.trail.ahead) (places w.history) (omega (arith, s.kept, s.ahead)),
      )

  pub start_not_refused : (r : Refusal) → number_of r ≡ tests w (moves_fit moves keys randoms) → Start w → lists_fit moves keys randoms ≡ true
      → all_moves moves ≡ true → ⊥
  start_not_refused r e s lists all = some_number r (e ∙ start_admitted s lists all)

  pub play_told : TypedBoard (board_of w) → Below 65536 keys → Below 256 randoms → Start w → (m : Machine) (t : Trail) (mem pic his : List ℕ) (o : Outcome)
      → Gives (play_from (moves_of moves keys randoms) (unrefused w)) o m t mem pic his
      → Told w (world m t mem pic his) (follow (places w.history) (moves_of moves keys randoms) w (first w))
  play_told typed ks rs s m t mem pic his o g =
      rw (gives_world (play_from (moves_of moves keys randoms) (unrefused w)) o m t mem pic his g)
      (steps_back w typed s (moves_of moves keys randoms) (plays_typed moves keys randoms ks rs))
