-- The tests are the callees', and a world that passes them is ready.
use Rattle.rules.specs.World.{world}
use Rattle.rules.specs.Rows.{bytes_of}
use Rattle.rules.proofs.Given.{passed_ready}
use Rattle.judge.proofs.admitted.Goals as goal

pub returns : goal.returns
returns c =
    let a = c.args in
    let w = world a.m a.t a.memory.now (bytes_of a.rows.now) a.history.now in
    let sizes = c.sizes_fit.ensures in
    let sound = c.soundly.ensures in
    let says = rw (sizes.value, sound.value) at c.tested.ensures in
    record { result_value = says; ready = passed_ready w a.lists _ (record { machine = sound.typed_machine; memory = sizes.below.0; picture = sizes.below.1 }) says }
