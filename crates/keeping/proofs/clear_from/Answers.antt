-- Three pieces, each over the end of the one before it.
use mathlib.Core.Path.{ap, ◌∙◌}
use mathlib.Core.List.{List}
use Prim.Native.Nat.{ℕ, ◌+◌, ◌-◌}
use native.Mathlib.Omega.{arith}
use lib.ListN.{replicate}
use Rattle.rules.specs.Memory.{over}
use Rattle.keeping.proofs.Cleared.{more_zeros}
use Rattle.keeping.proofs.clear_from.Goals as goal

pub returns : goal.returns
returns c =
    let start = c in
    let p = start.args.place.now in
    let f = start.args.from in
    let s = start.args.skew in
    let middle =
    c.zeros-2.ensures ∙ ap (λ (l : List ℕ). over l (32 + s) (replicate 240 0) 240) c.zeros.ensures
    ∙ more_zeros p f 16 (32 + s) 240 (omega arith) (omega arith) (omega arith) (omega arith) in
    c.zeros-3.ensures ∙ ap (λ (l : List ℕ). over l 272 (replicate 16 0) 16) middle
    ∙ more_zeros p f (32 + s + 240 - f) 272 16 (omega arith) (omega arith) (omega arith) (omega arith)
