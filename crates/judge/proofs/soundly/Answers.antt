-- Both tests are the callees', and so is what the types say of the machine.
use Rattle.judge.proofs.soundly.Goals as goal

pub returns : goal.returns
returns c = record { value = cc; typed_machine = c.is_sound.ensures.typed_machine }
