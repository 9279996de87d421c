-- A drawing's pattern is short and as long as it was asked for, and the rows that are kept are those that it changes.
use mathlib.Core.Path.{◌≡◌, refl}
use mathlib.Core.List.{List}
use Prim.Native.Nat.{ℕ, ◌+◌, ◌*◌, ◌≤◌, ◌<◌}
use native.Mathlib.Omega.{arith}
use lib.Dec.{eqb}
use lib.ListN.{length, get_or, length-take}
use Rattle.rules.specs.declared.Op.{Op}
use Rattle.rules.specs.declared.Change.{Change}
use Rattle.rules.specs.Number.{pick}
use Rattle.rules.specs.Memory.{part}
use Rattle.rules.specs.Record.{old, count}
use Rattle.rules.specs.Step.{rows_change, row_bytes}
use Rattle.rules.specs.World.{World}
use Rattle.rules.proofs.Parts.{below_get, part_length}
use Rattle.rules.proofs.Choices.{by_test}
use Rattle.rules.proofs.Follow.{OpFits, decode_fits}
use Rattle.ways.specs.Steps.{Reached}

-- a pattern has at most fifteen bytes
module _ (w : World) (op : Op) (r : Reached op w) where
  byte : (a : ℕ) → get_or w.memory a 0 < 256
  byte a = below_get (omega arith) r.ready.good.memory.below a

  pub fits : OpFits op
  fits = rw r.there (decode_fits _ _ _ (byte w.machine.pc) (byte (w.machine.pc + 1)))

-- the rows that a drawing keeps are those that it changes
pub rows_old : (n row : ℕ) (mem pic : List ℕ) → (old (rows_change n row) mem pic ≡ part pic (8 * row) (row_bytes n row)) × (count (rows_change n row) ≡ row_bytes n row)
rows_old n row mem pic =
    by_test (λ (c : Change). (old c mem pic ≡ part pic (8 * row) (row_bytes n row)) × (count c ≡ row_bytes n row)) n 0
    (λ e. let none : row_bytes n row ≡ 0 = omega arith in rw none (refl, refl)) (λ ne. (refl, refl))

-- a pattern that is in memory is as long as it was asked for
pub pattern_length : (mem : List ℕ) (i n : ℕ) → length mem ≡ 4096 → pick (eqb n 0) 0 (i + n) ≤ 4096 → length (part mem i n) ≡ n
pattern_length mem i n sized =
    by_test (λ (end : ℕ). end ≤ 4096 → length (part mem i n) ≡ n) n 0
    (λ e h. rw e (simp length-take (omega arith))) (λ ne h. part_length mem i n (omega arith))
