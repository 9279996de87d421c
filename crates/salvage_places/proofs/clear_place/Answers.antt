-- The place that was lent comes back as zeros, and the rest of the history stands as it was.
use mathlib.Core.Path.{◌≡◌, ap, ◌∙◌}
use Prim.Native.Nat.{ℕ, ◌+◌, ◌-◌, ◌*◌}
use native.Mathlib.Omega.{arith}
use lib.ListN.{length, take, drop, replicate, length-take, length-drop}
use Rattle.rules.proofs.Laid.{lent}
use Rattle.salvage_places.specs.Cleared.{empty_place}
use Rattle.salvage_places.proofs.clear_place.Goals as goal

pub returns : goal.returns
returns c =
    let a = c.args in
    let at = 292 * a.p in
    let sized : length (take (at + 292 - at) (drop at a.history.now)) - 0 ≡ 292 = simp (length-take, length-drop) (omega arith) in
    lent at 292 a.history.now _ empty_place (c.clear.ensures ∙ ap (λ (n : ℕ). replicate {A = ℕ} n 0) sized)
