-- A tick's record keeps no bytes, so it is the same beside any memory and picture.
use mathlib.Core.Path.{refl, ap, ◌∙◌}
use mathlib.Core.List.{List}
use Prim.Native.Nat.{ℕ, ◌*◌}
use Rattle.rules.specs.declared.Action.TheVariants.{Tick}
use Rattle.rules.specs.Memory.{over}
use Rattle.rules.specs.Call.{ticked}
use Rattle.parts.specs.Whole.{whole}
use Rattle.keeping.proofs.Laid.{nothing_old}
use Rattle.ticking.proofs.tick.Goals as goal

pub returns : goal.returns
unfolding ticked
returns c memory picture =
    let a = c.args in
    let at = 292 * a.trail.now.next in
    record {
      says = refl;
      machine = c.tick.ensures _ _;
      trail = rw c.places-places.ensures at c.grown.ensures;
      memory = refl;
      picture = refl;
      history =
          c.keep_state.ensures
          ∙ ap (λ (r : List ℕ). over a.history.now at r 292) (nothing_old (whole a.c.now a.v.now a.stack.now) Tick);
    }
