-- They are the bytes that the library makes of the number, and all of them are laid.
use mathlib.Core.Path.{◌≡◌, ◌∙◌}
use Rattle.rules.specs.Rows.{byte_in, eight_of}
use Rattle.rules.proofs.Turning.{listed_length}
use Rattle.memory.proofs.Numbers.{eight_same}
use Rattle.memory.proofs.lay_eight.Goals as goal

pub returns : goal.returns
returns c =
    let n = c.args.n in
    let is : c.to_be_bytes-bytes.result ≡ eight_of n = c.to_be_bytes-bytes.ensures ∙ eight_same n in
    rw (is, listed_length (λ j. byte_in j n) 8) at c.lay.ensures
