-- Sums over rows, from the first on and from any on.
use Rattle.std.specs.Prelude.{ℕ, zero, suc, ◌+◌, ◌-◌}

-- f 0 + f 1 and so on, n of them
unfoldable pub summed : (ℕ → ℕ) → ℕ → ℕ
summed f zero = 0
summed f (suc n) = summed f n + f n

-- f from + .. and so on, up to `to`
abbrev pub between : (ℕ → ℕ) → ℕ → ℕ → ℕ
between f from to = summed (λ k. f (from + k)) (to - from)
