-- One byte of the picture replaced: its row is turned over where the old byte and the new one differ.
use mathlib.Core.Path.{◌≡◌, sym, ◌∙◌}
use mathlib.Core.List.{List}
use Prim.Native.Nat.{ℕ, ◌+◌, ◌-◌, ◌*◌, ◌/◌, ◌%◌, ◌^◌, ◌<◌}
use native.Mathlib.Nat.{mod-lt, zero-lt-suc, zero-div, mod-eq_of_lt, mul_assoc, mul-mod_left}
use native.Mathlib.Decide.{dec_lt, ℕ_discrete}
use native.Mathlib.Omega.{arith}
use lib.ListN.{get_or, set, length, length-set}
use lib.Seq.{ext_get_or, get_or-set_same, get_or-set_other}
use lib.Bits.{bit_xor, xor_lt, xor_zero_r}
use lib.Pow.{shr-shr, shl-shr, shl_exact, pow-add}
use Rattle.rules.specs.Rows.{byte_in, bytes_of}
use Rattle.picture.proofs.Bits.{shl_less, shl_more, xor_back}
use Rattle.rules.proofs.Turning.{bytes_length, byte_at, byte_xor}

-- ---- a byte moved into its place: it stands there, and the other bytes are 0

byte_here : (j x : ℕ) → x < 256 → byte_in j (x * 2 ^ (56 - 8 * j)) ≡ x
byte_here j x h = rw (shl-shr x (56 - 8 * j)) (mod-eq_of_lt h)

byte_above : (k t x : ℕ) → x < 256 → x * 2 ^ k / 2 ^ (k + (8 + t)) % 256 ≡ 0
byte_above k t x h =
    let none : x / 2 ^ 8 ≡ 0 = omega arith in
    rw (shl_less x k (8 + t), ← shr-shr x 8 t, none, zero-div)

byte_beneath : (k t x : ℕ) → x * 2 ^ (k + (t + 8)) / 2 ^ k % 256 ≡ 0
byte_beneath k t x = rw (shl_more x k (t + 8), pow-add 2 t 8, ← mul_assoc x (2 ^ t) (2 ^ 8)) (mul-mod_left (x * 2 ^ t) 256)

byte_other : (i j x : ℕ) → i < 8 → j < 8 → x < 256 → (i ≡ j → ⊥) → byte_in i (x * 2 ^ (56 - 8 * j)) ≡ 0
byte_other i j x hi hj small ne = by (dec_lt i j)
  where
    by : Dec (i < j) → byte_in i (x * 2 ^ (56 - 8 * j)) ≡ 0
    by (yes l) =
        let e : 56 - 8 * j + (8 + (8 * (j - i) - 8)) ≡ 56 - 8 * i = omega arith in
        rw e at (byte_above (56 - 8 * j) (8 * (j - i) - 8) x small)
    by (no l) =
        let e : 56 - 8 * i + (8 * (i - j) - 8 + 8) ≡ 56 - 8 * j = omega arith in
        rw e at (byte_beneath (56 - 8 * i) (8 * (i - j) - 8) x)

-- ---- THE BYTE REPLACED

module _ (rows : List ℕ) (k b : ℕ) (small : b < 256) (h : k < 8 * length rows) where
  abbrev n : ℕ
  n = get_or rows (k / 8) 0

  abbrev x : ℕ
  x = bit_xor (byte_in (k % 8) n) b

  -- the row turned over where the old byte and the new one differ
  abbrev n' : ℕ
  n' = bit_xor n (x * 2 ^ (56 - 8 * (k % 8)) % 2 ^ 64)

  x_small : x < 256
  x_small = xor_lt 8 (byte_in (k % 8) n) b (mod-lt _ (zero-lt-suc 255)) small

  turned_byte : (j : ℕ) → byte_in j n' ≡ bit_xor (byte_in j n) (byte_in j (x * 2 ^ (56 - 8 * (k % 8))))
  turned_byte j = rw (shl_exact 8 (56 - 8 * (k % 8)) 64 x_small (omega arith)) (byte_xor j n (x * 2 ^ (56 - 8 * (k % 8))))

  same_byte : byte_in (k % 8) n' ≡ b
  same_byte = turned_byte (k % 8) ∙ rw (byte_here (k % 8) x x_small) (xor_back (byte_in (k % 8) n) b)

  other_byte : (j : ℕ) → j < 8 → (j ≡ k % 8 → ⊥) → byte_in j n' ≡ byte_in j n
  other_byte j l ne = turned_byte j ∙ rw (byte_other j (k % 8) x l (omega arith) x_small ne) (xor_zero_r (byte_in j n))

  pub byte_put : bytes_of (set rows (k / 8) n') ≡ set (bytes_of rows) k b
  byte_put =
      ext_get_or 0 _ _ (bytes_length (set rows (k / 8) n') ∙ simp (length-set, bytes_length)) λ i l.
      byte_at (set rows (k / 8) n') i ∙ by i (ℕ_discrete i k) (ℕ_discrete (i / 8) (k / 8))
    where
      by : (i : ℕ) → Dec (i ≡ k) → Dec (i / 8 ≡ k / 8) → byte_in (i % 8) (get_or (set rows (k / 8) n') (i / 8) 0) ≡ get_or (set (bytes_of rows) k b) i 0
      by i (yes e) d = rw (e, get_or-set_same rows (k / 8) n' 0 (omega arith), get_or-set_same (bytes_of rows) k b 0 (omega (arith, bytes_length rows))) same_byte
      by i (no e) (yes d) =
          rw (d, get_or-set_same rows (k / 8) n' 0 (omega arith), get_or-set_other (bytes_of rows) k i b 0 e, byte_at rows i, d) (other_byte (i % 8) (omega arith) (λ f. e (omega arith)))
      by i (no e) (no d) = rw (get_or-set_other rows (k / 8) (i / 8) n' 0 d, get_or-set_other (bytes_of rows) k i b 0 e) (sym (byte_at rows i))
