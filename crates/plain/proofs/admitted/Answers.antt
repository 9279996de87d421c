-- The tests are the callees', and the types say that what passes them is in range.
use Rattle.rules.proofs.Parts.{below_of}
use Rattle.plain.proofs.Entries.{passed_playable}
use Rattle.plain.proofs.admitted.Goals as goal

pub returns : goal.returns
returns c =
    let a = c.args in
    let says = rw (c.is_sound.ensures.value, c.are_spots.ensures) at c.tested.ensures in
    let bytes = below_of a.memory.now (λ i h. (c.type_inv.memory i).fits) in
    record { result_value = says; playable = passed_playable a.m a.memory.now a.spots.now a.lists _ c.is_sound.ensures.typed_machine bytes says }
