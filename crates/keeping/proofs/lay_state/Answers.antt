-- A number, and two bytes behind it, are the first ten of the fields.
use mathlib.Core.Path.{ap, ap₂, ◌∙◌}
use mathlib.Core.List.{List, [], ◌∷◌, ◌++◌}
use Prim.Native.Nat.{ℕ}
use native.Mathlib.Omega.{arith}
use lib.ListN.{length, take}
use Rattle.rules.specs.Memory.{over}
use Rattle.rules.specs.Record.{held_byte}
use Rattle.rules.specs.Rows.{byte_in}
use Rattle.rules.proofs.Turning.{listed_length}
use Rattle.keeping.proofs.Overlap.{overlapped}
use Rattle.keeping.proofs.lay_state.Goals as goal

pub returns : goal.returns
returns c v change =
    let second = c in
    let first = second in
    let made = first in
    let two = made in
    let start = two in
    let last = two.last_return-last.ensures in
    let x = made.first_fields.ensures in
    let y = two.tone_and_held-bytes.ensures in
    let t : List ℕ = start.args.c.timers.tone ∷ held_byte start.args.c.wait ∷ [] in
    second.lay.ensures
    ∙ ap₂ (λ (l b : List ℕ). over l 26 b (length b)) first.lay_eight.ensures y
    ∙ overlapped start.args.place.now _ t 18 8 8 2 (omega arith) (listed_length (λ j. byte_in j made.first_fields.result) 8) (omega arith) (omega arith)
    ∙ ap (λ (a : List ℕ). over start.args.place.now 18 (take 8 a ++ t) 10) x
    ∙ rw last
