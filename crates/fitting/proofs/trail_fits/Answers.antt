-- Where kept passes R the sum does; else the sum is at most R exactly where ahead is at most what is left.
use mathlib.Core.Path.{◌≡◌, refl, sym}
use mathlib.Core.Bool.{Bool, true, false, and-false}
use Prim.Native.Nat.{ℕ, ◌+◌, ◌-◌, ◌≤◌}
use native.Mathlib.Omega.{arith}
use lib.Dec.{leb, ltb}
use borrow.Author.Tests.{leb-true, leb-false, le-leb, lt-leb}
use Rattle.rules.specs.World.{places}
use Rattle.fitting.proofs.trail_fits.Goals as goal

beside : (kept ahead r : ℕ) → kept ≤ r → leb ahead (r - kept) ≡ leb (kept + ahead) r
beside kept ahead r h = go (leb ahead (r - kept)) refl
  where
    go : (t : Bool) → leb ahead (r - kept) ≡ t → t ≡ leb (kept + ahead) r
    go true e = sym (le-leb (kept + ahead) r (omega (arith, leb-true ahead (r - kept) e)))
    go false e = sym (lt-leb (kept + ahead) r (omega (arith, leb-false ahead (r - kept) e)))

pub returns-then-places-t : goal.returns-then-places-t
returns-then-places-t c =
    let a = c.args in
    let r = places a.history.now in
    let past = lt-leb (a.t.kept + a.t.ahead) r (omega (arith, c.if-places-t.true, c.places-places.ensures)) in
    rw past (sym (and-false (ltb a.t.next r)))

pub returns : goal.returns
returns c =
    let test = c in
    let t = test.args.t in
    rw (← test.places-places.ensures, ← beside t.kept t.ahead _ test.if-places-t.false)
