-- The invariant: the ticks that are left, from here, lead to the same world, beside any memory and picture.
use mathlib.Core.Path.{◌≡◌, refl, ◌∙◌}
use mathlib.Core.List.{[]}
use Prim.Native.Nat.{◌-◌}
use native.Mathlib.Omega.{arith}
use Rattle.entries.proofs.Ticks.{gives_world, world_gives, again_tickable, one_more}
use Rattle.entries.proofs.ticks_of.Goals as goal

pub loop-made-init : goal.loop-made-init
loop-made-init c =
    let all : c.args.count - 0 ≡ c.args.count = omega arith in
    (c.requires, λ mem pic. rw all refl)

pub tick-requires : goal.tick-requires
tick-requires c = c.loop-made.invariant.0

pub loop-made-preserved : goal.loop-made-preserved
loop-made-preserved c =
    let left = c.loop-made.invariant in (
      again_tickable _ _ _ _ _ _ left.0 (omega arith) (c.tick.ensures [] []),
      λ mem pic. one_more _ _ _ _ c.loop-made-test.true (gives_world _ _ _ _ _ _ _ (c.tick.ensures mem pic)) ∙ left.1 mem pic,
    )

pub returns : goal.returns
returns c mem pic =
    let none : c.args.count - c.loop-made._made ≡ 0 = omega arith in
    world_gives _ _ (rw none at (c.loop-made.invariant.1 mem pic))
