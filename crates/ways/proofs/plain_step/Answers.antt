-- The record keeps no old bytes, the instruction is the definition's, and where the picture stays so does the number of lit spots.
use mathlib.Core.Path.{refl, ap, ◌∙◌}
use native.Mathlib.Omega.{arith}
use Rattle.rules.specs.declared.Action.TheVariants.{Step}
use Rattle.rules.specs.declared.Op.TheVariants.{Plain}
use Rattle.rules.specs.declared.Wait.TheVariants.{Idle}
use Rattle.rules.specs.State.{with_wait}
use Rattle.rules.specs.Step.{change_of, after}
use Rattle.rules.specs.Dark.{dark_of}
use Rattle.rules.specs.Rows.{bytes_of}
use Rattle.parts.specs.Whole.{whole}
use Rattle.act.proofs.Laws.{still}
use Rattle.ways.proofs.OneStep.{in_range, place_inside, plain_passes, nothing_kept, reached_as, made}
use Rattle.ways.proofs.plain_step.Goals as goal

pub keep_state-requires : goal.keep_state-requires
keep_state-requires c = (place_inside _ c.requires.1.ready, c.requires.1.ready.good.machine.calls.most)

pub simple-requires : goal.simple-requires
simple-requires c = omega (arith, c.requires.1.near, c.requires.1.ready.good.machine.end.most)

pub grown-requires : goal.grown-requires
grown-requires c = rw c.places-places.ensures (in_range _ c.requires.1.ready)

pub returns : goal.returns
unfolding change_of after dark_of
returns c =
    let a = c.args in
    let m = whole a.c a.v.now a.stack.now in
    let simple = c.simple_of-simple.result in
    let r = reached_as (c.simple_of-simple.ensures a.c.edition c.requires.0) c.requires.1 in
    let acts = c.idle-core.ensures _ _ ∙ ap (with_wait Idle) (c.simple.ensures _) in
    made _ (Plain simple) r (plain_passes _ r.ready simple) a.keys a.random _ _ _ _ _ _
    (still (Plain simple) a.keys a.random m a.memory.now (bytes_of a.rows.now) refl (record { machine = acts; memory = refl; picture = refl }))
    (rw c.places-places.ensures at c.grown.ensures)
    (nothing_kept m (Step a.keys a.random) _ _ _ c.keep_state.ensures)
    refl (omega arith) refl
