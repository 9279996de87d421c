-- The bytes of rows that are kept while they are turned over: rows that stand from y on have the same bytes from there on.
use mathlib.Core.Path.{◌≡◌, sym, ap, ◌∙◌}
use mathlib.Core.List.{List}
use Prim.Native.Nat.{ℕ, ◌+◌, ◌-◌, ◌*◌, ◌/◌, ◌%◌, ◌≤◌}
use native.Mathlib.Omega.{arith}
use native.Mathlib.Nat.{add-zero, zero-add}
use lib.ListN.{length, get_or, take, drop}
use lib.Seq.{ext_get_or, get_or-take, get_or-drop}
use Rattle.rules.specs.Memory.{part, over}
use Rattle.rules.specs.Rows.{byte_in, bytes_of}
use Rattle.rules.proofs.Parts.{same_drop, part_length}
use Rattle.rules.proofs.Turning.{bytes_length, byte_at, part_sized}
use Rattle.rules.proofs.Laid.{Laid, none, more_part, laid}

pub same_bytes : (rows after : List ℕ) (y n : ℕ) → length after ≡ length rows → ((k : ℕ) → y ≤ k → get_or after k 0 ≡ get_or rows k 0)
    → part (bytes_of after) (8 * y) n ≡ part (bytes_of rows) (8 * y) n
same_bytes rows after y n sized same =
    let e : length (bytes_of after) ≡ length (bytes_of rows) = bytes_length after ∙ ap (λ (k : ℕ). 8 * k) sized ∙ sym (bytes_length rows) in
    ap (take n) (same_drop (8 * y) (bytes_of after) (bytes_of rows) e
    λ i h l. byte_at after i ∙ ap (byte_in (i % 8)) (same (i / 8) (omega arith)) ∙ sym (byte_at rows i))

-- a part of a part
part_in : (l : List ℕ) (a n b k : ℕ) → b + k ≤ n → a + n ≤ length l → part (part l a n) b k ≡ part l (a + b) k
part_in l a n b k h room =
    let sized : length (part (part l a n) b k) ≡ k = part_length (part l a n) b k (omega (arith, part_length l a n room)) in
    let other : length (part l (a + b) k) ≡ k = part_length l (a + b) k (omega arith) in
    ext_get_or 0 _ _ (sized ∙ sym other) λ i m.
    let there : a + (b + i) ≡ a + b + i = omega arith in
    get_or-take k (drop b (part l a n)) i 0 (omega (arith, sized)) ∙ get_or-drop b (part l a n) i 0
    ∙ get_or-take n (drop a l) (b + i) 0 (omega (arith, sized)) ∙ get_or-drop a l (b + i) 0 ∙ ap (λ (j : ℕ). get_or l j 0) there
    ∙ sym (get_or-take k (drop (a + b) l) i 0 (omega (arith, sized)) ∙ get_or-drop (a + b) l i 0)

-- the bytes of some rows are laid, and then those of more rows beneath them, which stand as they stood
pub both_kept : (rows after p p₁ p₂ : List ℕ) (at below row middle end : ℕ) → below ≡ at + 8 * (middle - row) → row ≤ middle → middle ≤ end → end ≤ length rows → at + 8 * (end - row) ≤ length p
    → length after ≡ length rows → ((k : ℕ) → middle ≤ k → get_or after k 0 ≡ get_or rows k 0)
    → p₁ ≡ over p at (part (bytes_of rows) (8 * row) (8 * (middle - row))) (8 * (middle - row))
    → p₂ ≡ over p₁ below (part (bytes_of after) (8 * middle) (8 * (end - middle))) (8 * (end - middle))
    → p₂ ≡ over p at (part (bytes_of rows) (8 * row) (8 * (end - row))) (8 * (end - row))
both_kept rows after p p₁ p₂ at below row middle end behind h k inside room sized same first second =
    let u = 8 * (middle - row) in
    let d = 8 * (end - middle) in
    let n = 8 * (end - row) in
    let all = part (bytes_of rows) (8 * row) n in
    let fits : 8 * row + n ≤ length (bytes_of rows) = omega (arith, bytes_length rows) in
    let further : 8 * row + u ≡ 8 * middle = omega arith in
    let upper : part (bytes_of rows) (8 * row) u ≡ part all 0 u = sym (rw (add-zero (8 * row)) at (part_in (bytes_of rows) (8 * row) n 0 u (omega arith) fits)) in
    let lower : part (bytes_of after) (8 * middle) d ≡ part all u d =
    same_bytes rows after middle d sized same ∙ sym (rw further at (part_in (bytes_of rows) (8 * row) n u d (omega arith) fits)) in
    let begun = more_part p at all n p _ 0 u (none p at all n (part_sized rows row (end - row) (omega arith)) room) (omega arith) upper in
    let half : Laid p at all n p₁ u = rw first (rw (add-zero at, zero-add u) at begun) in
    laid p at all n p₂ (u + d) (rw (second, behind) (more_part p at all n p₁ _ u d half (omega arith) lower)) (omega arith)
