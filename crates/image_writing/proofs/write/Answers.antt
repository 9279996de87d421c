-- Each piece stands behind the one before it, to the end.
use native.Mathlib.Omega.{arith}
use mathlib.Core.List.{[], ◌∷◌, ◌++◌}
use Rattle.rules.specs.Number.{word}
use Rattle.image.specs.Image.{six_from, numbers, edition_byte, image_of}
use Rattle.image_writing.proofs.Pieces.{image_laid}
use Rattle.image_writing.proofs.write.Goals as goal

pub returns : goal.returns
unfolding image_of
returns c =
    let s = c.args.m.stack in
    image_laid (six_from 0 s) (six_from 6 s) (numbers c.args.t) ((edition_byte c.args.m.edition ∷ 0 ∷ []) ++ word c.args.t.ahead) c.lay_variables.ensures c.lay_middle.ensures
    c.lay_stack.ensures c.lay_numbers.ensures c.lay_end.ensures (omega arith)
