-- Zeros laid over zeros that reach so far, and on from there.
use mathlib.Core.Path.{◌≡◌, sym, ap, ◌∙◌}
use mathlib.Core.List.{List, ◌++◌}
use Prim.Native.Nat.{ℕ, ◌+◌, ◌-◌, ◌≤◌}
use native.Mathlib.Omega.{arith}
use lib.ListN.{length, take, replicate, length-replicate, replicate-append-replicate}
use lib.Seq.{take_at}
use Rattle.rules.specs.Memory.{over}
use Rattle.keeping.proofs.Overlap.{overlapped}

-- k zeros from a byte on
abbrev pub zeroed : List ℕ → ℕ → ℕ → List ℕ
zeroed p from k = over p from (replicate k 0) k

-- d of k zeros, and n behind them
joined : (k d n : ℕ) → d ≤ k → take d (replicate {A = ℕ} k 0) ++ replicate n 0 ≡ replicate (d + n) 0
joined k d n near =
    let e : k ≡ d + (k - d) = omega arith in
    let cut : take d (replicate {A = ℕ} k 0) ≡ replicate d 0 =
    ap (λ (j : ℕ). take d (replicate {A = ℕ} j 0)) e
    ∙ ap (take d) (sym (replicate-append-replicate {A = ℕ} d (k - d) 0))
    ∙ take_at (replicate d 0) (replicate (k - d) 0) d (length-replicate d 0) in
    ap (λ (l : List ℕ). l ++ replicate n 0) cut ∙ replicate-append-replicate {A = ℕ} d n 0

pub more_zeros : (p : List ℕ) (from k at n : ℕ) → from ≤ at → at ≤ from + k → from + k ≤ at + n → at + n ≤ length p
    → over (zeroed p from k) at (replicate n 0) n ≡ zeroed p from (at + n - from)
more_zeros p from k at n behind near far room =
    let d = at - from in
    let here : at ≡ from + d = omega arith in
    let many : d + n ≡ at + n - from = omega arith in
    ap (λ (j : ℕ). over (zeroed p from k) j (replicate n 0) n) here
    ∙ overlapped p (replicate k 0) (replicate n 0) from k d n (omega arith) (length-replicate k 0) (omega arith) (omega arith)
    ∙ ap (λ (l : List ℕ). over p from l (d + n)) (joined k d n (omega arith))
    ∙ ap (zeroed p from) many
