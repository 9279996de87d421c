-- The eager tests are the definition's, the last its callee's, and 32 rows are a picture's bytes; each byte that is lent is one by its type.
use mathlib.Core.Path.{ap}
use mathlib.Core.Bool.{Bool, ◌&&◌}
use lib.Dec.{eqb}
use lib.ListN.{length}
use Rattle.rules.proofs.Parts.{below_of}
use Rattle.rules.proofs.Turning.{bytes_below, sized_rows}
use Rattle.fitting.proofs.sizes_fit.Goals as goal

pub returns : goal.returns
returns c =
    let memory = c.shared_slice_known-1 in
    let a = c.args in
    let fits = ap (λ (t : Bool). eqb (length a.memory.now) 4096 && eqb (length a.rows.now) 32 && t) c.history_fits.ensures in
    record { value = rw (sized_rows a.rows.now) fits; below = (below_of a.memory.now (λ i h. (memory.given i).fits), bytes_below a.rows.now) }
