-- The part that is lent holds as many bytes as there are registers.
use mathlib.Core.Path.{◌≡◌, ap, ◌∙◌}
use mathlib.Core.List.{List, ◌++◌}
use Prim.Native.Nat.{ℕ, ◌+◌, ◌-◌, ◌≤◌}
use native.Mathlib.Omega.{arith}
use lib.ListN.{length, drop, length-take, length-drop}
use Rattle.rules.specs.declared.Wait.TheVariants.{Idle}
use Rattle.rules.specs.Memory.{part}
use Rattle.rules.specs.State.{up_to, with_wait}
use Rattle.transfers.proofs.fetch.Goals as goal

-- of a part that is as long as the registers are many, the first registers are its bytes
fetched : (memory v : List ℕ) (i k n : ℕ) → k ≡ n → i + n ≤ length memory
    → part memory i (i + k - i) ++ drop (length (part memory i (i + k - i))) v ≡ part memory i n ++ drop n v
fetched memory v i k n is fits =
    let e : i + k - i ≡ n = omega arith in
    let sized : length (part memory i n) ≡ n = simp (length-take, length-drop) (omega arith) in
    rw (e, sized)

pub returns : goal.returns
returns c stack =
    let a = c.args in
    let count = c.up_to-count.ensures in
    c.idle.ensures _ stack
    ∙ ap (with_wait Idle) (c.point.ensures _ stack)
    ∙ rw (c.fetch.ensures ∙ fetched a.memory.now a.v.now a.c.i _ (up_to a.x) count (omega arith), count)
