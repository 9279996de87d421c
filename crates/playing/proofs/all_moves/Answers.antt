-- The test of all of them is the definition's.
use mathlib.Core.Path.{◌≡◌, refl, ap, ◌∙◌}
use mathlib.Core.Bool.{Bool, ◌&&◌}
use mathlib.Core.List.{List, [], ◌∷◌}
use Prim.Native.Nat.{ℕ}
use borrow.Author.Rules.{rules}
use lib.Dec.{leb}
use Rattle.std.specs.List.{list_all}
use Rattle.std.proofs.lemmas.Iterator.{YieldsList-from_slice}
use Rattle.std.proofs.lemmas.Iterator.Search.{all_from_yields_List}
use Rattle.rules.specs.Run.{all_moves}
use Rattle.playing.proofs.all_moves.Goals as goal

all_are : (l : List ℕ) → list_all (λ b. leb b 3) l ≡ all_moves l
unfolding all_moves
all_are [] = refl
all_are (b ∷ bs) = ap (λ (rest : Bool). leb b 3 && rest) (all_are bs)

pub returns : goal.returns
returns c =
    all_from_yields_List (λ b. leb b 3) _ _ _ c.all.ensures.ran (YieldsList-from_slice c.args.moves.now cc) (λ x b q k. search rules) ∙ all_are c.args.moves.now
