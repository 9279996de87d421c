-- Each way out by the test that led there.
use Rattle.soundness.proofs.end_of.Goals as goal

pub returns-then-end_sound : goal.returns-then-end_sound
returns-then-end_sound c = rw (← c.end_sound.ensures, c.if-end_sound.true)

pub returns : goal.returns
returns c = rw (← c.end_sound.ensures, c.if-end_sound.false)
