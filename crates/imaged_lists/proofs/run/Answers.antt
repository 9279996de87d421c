-- The library's run of the world that the image stands for; the image is left only where the run's own tests refuse it.
use Rattle.rules.specs.Run.{run, run_refusal}
use Rattle.rules.specs.Rows.{bytes_of}
use Rattle.rules.proofs.Parts.{below_of}
use Rattle.imaged.specs.Imaged.{world_of}
use Rattle.imaged.proofs.Laws.{run_sound, run_left, seen_list}
use Rattle.imaged_lists.proofs.run.Goals as goal

pub returns-clause-leaves : goal.returns-clause-leaves
returns-clause-leaves c =
    let ran = rw (c.read.ensures.0, c.read.ensures.1) at c.run-ran.ensures.gives_run in
    let a = c.args in
    let w = world_of a.image.now a.memory.now (bytes_of a.rows.now) a.history.now in
    seen_list a.image.now a.memory.now (bytes_of a.rows.now) a.history.now c.told-image
    (below_of a.image.now (λ i h. c.fits-image i)) (run_refusal a.ticks.now a.keys.now a.randoms.now w)
    (run a.ticks.now a.keys.now a.randoms.now w).answer
    (run_sound a.ticks.now a.keys.now a.randoms.now w) (run_left a.ticks.now a.keys.now a.randoms.now w)
    _ _ _ _ _ _ _ _ ran.rest c.after_list.ensures.0 c.after_list.ensures.1
