-- Refused by the tests 9 or 10, which a sound start passes, or played from a world that is ready: then the theorem of the rules tells of it.
use mathlib.Core.Path.{◌≡◌, sym, ◌∙◌}
use mathlib.Core.Bool.{◌&&◌, and-eq-true_iff}
use native.Mathlib.Omega.{arith}
use Rattle.std.proofs.lemmas.Result.{err_from_is_err_and}
use Rattle.rules.specs.World.{world}
use Rattle.rules.specs.Run.{lists_fit, all_moves}
use Rattle.rules.specs.Rows.{bytes_of}
use Rattle.rules.proofs.Parts.{below_of}
use Rattle.rules.proofs.Ready.{ready_typed}
use Rattle.rules.proofs.Given.{tests, passed_lists, done_number}
use Rattle.playing.proofs.Moves.{play_refused, play_admitted, start_not_refused, play_told}
use Rattle.playing.proofs.play.Goals as goal

pub returns-in_err-admitted : goal.returns-in_err-admitted
returns-in_err-admitted c =
    let says = rw (c.all_moves.ensures, c.lists_fit.ensures, c.in_err-admitted.was) at c.admitted.ensures.result_value in
    let a = c.args in
    let w = world a.machine.now a.trail.now a.memory.now (bytes_of a.rows.now) a.history.now in
    let p = err_from_is_err_and c.from_residual.result c.from_residual.ensures.1 in
    rw (p.1, p.2)
    (record { gives = play_refused _ _ _ w _ says; play_tells = λ start lists all. absurd (start_not_refused a.moves.now a.keys.now a.randoms.now w _ says start lists all) })

pub make_all-requires : goal.make_all-requires
make_all-requires c =
    let a = c.args in
    let w = world a.machine.now a.trail.now a.memory.now (bytes_of a.rows.now) a.history.now in
    let says = rw (c.all_moves.ensures, c.lists_fit.ensures) at c.admitted.ensures.result_value in
    ((and-eq-true_iff (lists_fit a.moves.now a.keys.now a.randoms.now) (all_moves a.moves.now)).0
    (passed_lists w _ _ _ says c.in_ok-admitted.was)).0

pub returns : goal.returns
returns c =
    let a = c.args in
    let w = world a.machine.now a.trail.now a.memory.now (bytes_of a.rows.now) a.history.now in
    let says = rw (c.all_moves.ensures, c.lists_fit.ensures) at c.admitted.ensures.result_value in
    let keys = below_of a.keys.now (λ i h. omega (arith, c.type_inv.keys i)) in
    let randoms = below_of a.randoms.now (λ i h. omega (arith, c.type_inv.randoms i)) in
    let passed : tests w (lists_fit a.moves.now a.keys.now a.randoms.now && all_moves a.moves.now) ≡ 0 = sym says ∙ done_number c.in_ok-admitted.was in
    record { gives = rw (play_admitted a.moves.now a.keys.now a.randoms.now w passed) c.make_all.ensures; play_tells = λ start lists all. play_told a.moves.now a.keys.now a.randoms.now w (ready_typed w (rw c.in_ok-admitted.was at c.admitted.ensures.ready)) keys randoms start _ _ _ _ _ _ c.make_all.ensures }
