-- Rows that are all 0 are bytes that are all 0.
use mathlib.Core.Path.{◌≡◌, ap, ◌∙◌}
use Rattle.std.proofs.Common.{rules, ℕ}
use lib.ListN.{replicate}
use Rattle.rules.specs.Rows.{bytes_of}
use Rattle.rules.proofs.Turning.{bytes_dark}
use Rattle.picture.proofs.clear.Goals as goal

pub returns : goal.returns
returns c = let dark : c.fill.new.self ≡ replicate {A = ℕ} 32 0 = search rules in ap bytes_of dark ∙ bytes_dark
