-- Four bytes behind the first ten of the fields make them all.
use mathlib.Core.Path.{refl, ap₂, ◌∙◌}
use mathlib.Core.List.{List}
use Prim.Native.Nat.{ℕ}
use native.Mathlib.Omega.{arith}
use lib.ListN.{length}
use Rattle.rules.specs.Memory.{over}
use Rattle.keeping.proofs.Overlap.{overlapped}
use Rattle.keeping.proofs.lay_fields.Goals as goal

pub returns : goal.returns
returns c v =
    let second = c in
    let made = second in
    let first = made in
    let a = first.args in
    second.lay.ensures
    ∙ ap₂ (λ (l b : List ℕ). over l 28 b (length b)) (first.lay_state.ensures v a.change) made.start_and_count-bytes.ensures
    ∙ overlapped a.place.now _ _ 18 10 10 4 (omega arith) refl (omega arith) (omega arith)
