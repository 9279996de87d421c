-- The plain run of the machine that the image stands for; the image is left only where the run's own tests refuse it.
use Rattle.rules.proofs.Parts.{below_of}
use Rattle.imaged_plain.proofs.Seen.{seen}
use Rattle.imaged_plain.proofs.run.Goals as goal

pub returns-clause-leaves_plain : goal.returns-clause-leaves_plain
returns-clause-leaves_plain c =
    let a = c.args in
    let ran = rw c.read.ensures.0 at c.run-ran.ensures in
    let after = rw c.read.ensures.1 at c.after_list.ensures in
    seen _ _ _ a.image.now _ _ c.told-image (below_of a.image.now (λ i h. c.fits-image i)) _ _ _ _ _ _ _ ran after.0 after.1
