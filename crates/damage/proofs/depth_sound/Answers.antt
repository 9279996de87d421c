-- The tests of the code are the tests of the definition, on the bytes that were read: one depth is at most n above another where it is at
-- most the other and n.
use Rattle.std.proofs.Common.{◌≡◌, ℕ, ◌+◌, ◌-◌, ◌≤◌, ◌<◌, refl, arith}
use mathlib.Core.Logic.{◌⊎◌, inl, inr}
use lib.Dec.{leb}
use Rattle.std.proofs.lemmas.Bool.{cases_lt, le-leb, lt-leb}
use Rattle.damage.proofs.depth_sound.Goals as goal

near : (d p n : ℕ) → leb (d - p) n ≡ leb d (p + n)
near d p n = go (cases_lt (p + n) d)
  where
    go : (p + n < d) ⊎ (d ≤ p + n) → leb (d - p) n ≡ leb d (p + n)
    go (inl far) = rw (lt-leb (d - p) n (omega arith), lt-leb d (p + n) far)
    go (inr below) = rw (le-leb (d - p) n (omega arith), le-leb d (p + n) below)

pub returns : goal.returns
returns c = rw (c.saturating_sub.ensures, c.saturating_sub-2.ensures, c.depth_at-depth.ensures, c.word_at-last.ensures, near, near) refl
