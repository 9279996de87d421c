-- The place that was lent comes back with the old bytes, which are no more than it has room for.
use mathlib.Core.Path.{◌≡◌, ap, ◌∙◌}
use mathlib.Core.List.{List}
use Prim.Native.Nat.{ℕ, ◌*◌}
use native.Mathlib.Omega.{arith}
use lib.ListN.{take}
use Rattle.rules.specs.Memory.{over, part}
use Rattle.rules.specs.Record.{old, count}
use Rattle.rules.specs.Rows.{bytes_of}
use Rattle.keeping.proofs.Inside.{lent_place, over_inside}
use Rattle.keeping.proofs.Reached.{old_counted}
use Rattle.keeping.proofs.keep_old.Goals as goal

pub returns : goal.returns
returns c =
    let a = c.args in
    let at = 292 * a.next in
    let few = (old_counted a.memory.now a.rows.now a.change c.requires.1).1 in
    let cut = c.split_at_mut-rest.ensures in
    let place = c.split_at_mut-place.ensures in
    let chunk = rw c.unwrap-place.ensures at c.as_mut_array.ensures.cases in
    let whole : c.unwrap-place.result.now ≡ part a.history.now at 292 = chunk.same ∙ place.front ∙ ap (take 292) cut.back in
    rw place.back (lent_place a.history.now _ _ _ at 292 cut.front cut.back)
    ∙ ap (λ (l : List ℕ). over a.history.now at l 292) (c.lay_old.ensures ∙ ap (λ (l : List ℕ). over l 32 (old a.change a.memory.now (bytes_of a.rows.now)) (count a.change)) whole)
    ∙ over_inside at 292 a.history.now _ 32 (count a.change) c.requires.0 (omega arith)
