-- Spots that are all dark are a dark picture.
use mathlib.Core.Path.{◌≡◌}
use borrow.Author.Rules.{rules}
use lib.ListN.{length, replicate}
use Rattle.std.proofs.Common.{ℕ}
use Rattle.spots.proofs.Forms.{dark_spots}
use Rattle.spots.proofs.erase.Goals as goal

pub returns : goal.returns
returns c =
    let dark : c.fill.new.self ≡ replicate {A = ℕ} (length c.args.spots.now) 0 = search rules in
    rw dark (dark_spots (length c.args.spots.now) c.requires.size)
