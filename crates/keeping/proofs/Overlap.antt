-- Bytes that are laid over the last of others, or just behind them.
use mathlib.Core.Path.{◌≡◌, ap, ap₂, ◌∙◌}
use mathlib.Core.List.{List, ◌++◌, append_assoc}
use Prim.Native.Nat.{ℕ, ◌+◌, ◌≤◌}
use native.Mathlib.Nat.{add_assoc}
use native.Mathlib.Omega.{arith}
use lib.ListN.{length, take, drop, length-append, length-take}
use lib.Seq.{take-append-le, take-append-add, length-take-le}
use Rattle.rules.specs.Memory.{over}
use Rattle.rules.proofs.Parts.{over_far}

-- of the k of x, d stand before the n of y
pub overlapped : (p x y : List ℕ) (at k d n : ℕ) → at + (d + n) ≤ length p → length x ≡ k → d ≤ k → k ≤ d + n
    → over (over p at x k) (at + d) y n ≡ over p at (take d x ++ y) (d + n)
overlapped p x y at k d n room sized near far =
    let front_sized : length (take at p) ≡ at = length-take-le at p (omega arith) in
    let cut : take (at + d) (take at p ++ x) ≡ take at p ++ take d x = rw front_sized at (take-append-add (take at p) x d) in
    let front : take (at + d) (over p at x k) ≡ take at p ++ take d x =
    take-append-le (at + d) (take at p ++ x) (drop (at + k) p) (simp (length-append, length-take) (omega arith)) ∙ cut in
    let back : drop (at + d + n) (over p at x k) ≡ drop (at + (d + n)) p =
    rw (add_assoc at d n) (over_far p x at k (omega arith) sized (at + (d + n)) (omega arith)) in
    ap₂ (λ (a b : List ℕ). a ++ y ++ b) front back ∙ ap (λ (l : List ℕ). l ++ drop (at + (d + n)) p) (append_assoc (take at p) (take d x) y)
