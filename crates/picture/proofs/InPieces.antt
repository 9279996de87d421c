-- Bytes in three pieces: laid one after the other they are laid, and their lit spots are those of all.
use mathlib.Core.Path.{◌≡◌, refl, sym, ◌∙◌}
use mathlib.Core.List.{List, ◌++◌}
use Prim.Native.Nat.{ℕ, ◌+◌, ◌≤◌, ◌<◌}
use native.Mathlib.Nat.{add-zero, zero-add, add_assoc}
use native.Mathlib.Omega.{arith}
use lib.ListN.{length, get_or, length-append}
use lib.Seq.{take-length, take_at, drop_at, drop-drop}
use Rattle.rules.specs.Memory.{part, over}
use Rattle.rules.specs.Lit.{lit_in}
use Rattle.rules.specs.Picture.{lit_spots}
use Rattle.rules.specs.Rows.{bytes_of}
use Rattle.rules.proofs.ByChange.{lit_append}
use Rattle.rules.proofs.Laid.{none, more_part, laid}
use Rattle.picture.specs.declared.Spots.{Spots}
use Rattle.picture.specs.Pieces.{Lit}
use Rattle.picture.proofs.Replaced.{lit_on, lit_over}

module _ (bytes f m b : List ℕ) (all : bytes ≡ f ++ (m ++ b)) where
  abbrev up : ℕ
  up = length f + length m

  long : up + length b ≡ length bytes
  long = rw all (simp length-append (omega arith))

  front_is : f ≡ part bytes 0 (length f)
  front_is = rw all (sym (take_at f (m ++ b) (length f) refl))

  whole_is : m ≡ part bytes (length f) (length m)
  whole_is = rw (all, drop_at f (m ++ b) (length f) refl) (sym (take_at m b (length m) refl))

  back_is : b ≡ part bytes up (length b)
  back_is = rw (← drop-drop (length m) (length f) bytes, all, drop_at f (m ++ b) (length f) refl, drop_at m b (length m) refl) (sym (take-length b))

  -- ---- laid

  pub pieces_laid : (k : ℕ) (P P₁ P₂ P₃ : List ℕ) → k + length bytes ≤ length P → P₁ ≡ over P k f (length f) → P₂ ≡ over P₁ (k + length f) m (length m)
      → P₃ ≡ over P₂ (k + length f + length m) b (length b) → P₃ ≡ over P k bytes (length bytes)
  pieces_laid k P P₁ P₂ P₃ room first second third =
      let n = length bytes in
      let one = rw (← first, zero-add) at (rw add-zero at (more_part P k bytes n P f 0 (length f) (none P k bytes n refl room) (omega (arith, long)) front_is)) in
      let two = rw (← second) at (more_part P k bytes n P₁ m (length f) (length m) one (omega (arith, long)) whole_is) in
      let three = more_part P k bytes n P₂ b up (length b) two (omega (arith, long)) back_is in
      third ∙ rw (add_assoc k (length f) (length m)) (laid P k bytes n _ (up + length b) three (omega (arith, long)))

  -- ---- counted

  pub pieces_lit : (rows : List ℕ) (k : ℕ) (x y z : Spots) → length rows ≡ 32 → ((i : ℕ) → get_or bytes i 0 < 256) → k + length bytes ≤ 256
      → Lit rows k f x → Lit rows (k + length f) m y → Lit rows (k + length f + length m) b z
      → lit_spots (over (bytes_of rows) k bytes (length bytes)) + (x.dark + y.dark + z.dark) ≡ lit_spots (bytes_of rows) + (x.lit + y.lit + z.lit)
  pieces_lit rows k x y z size small fits p q r =
      let P = bytes_of rows in
      let two = lit_on P k (length f) (length m) x.dark y.dark p.dark q.dark in
      let dark = lit_on P k up (length b) (x.dark + y.dark) z.dark two (rw (← add_assoc k (length f) (length m)) r.dark) in
      let lit : x.lit + y.lit + z.lit ≡ lit_in bytes = rw (all, lit_append f (m ++ b), lit_append m b) (omega (arith, p.lit, q.lit, r.lit)) in
      omega (arith, lit_over rows bytes k size small fits, rw long at dark, lit)
