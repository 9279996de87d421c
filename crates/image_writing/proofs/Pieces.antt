-- What stands in an image after a call, and at the end.
use mathlib.Core.Path.{◌≡◌, refl, sym, ap, ◌∙◌}
use mathlib.Core.List.{List, [], ◌∷◌, ◌++◌, append_assoc}
use Prim.Native.Nat.{ℕ, ◌+◌, ◌*◌, ◌/◌, ◌%◌, ◌≤◌, ◌<◌}
use native.Mathlib.Omega.{arith}
use lib.ListN.{length, take}
use lib.Seq.{take-length}
use Rattle.rules.specs.Number.{word}
use Rattle.rules.specs.Memory.{over}
use Rattle.rules.proofs.Laid.{behind}
use Rattle.image_writing.specs.Laid.{Stands}

-- bytes that were laid from `at` on
pub stands : {l m y : List ℕ} (x : List ℕ) (at n : ℕ) → m ≡ over l at y (length y) → at ≤ length l → y ≡ x → length x ≡ n
    → Stands x l at m (at + n)
stands {l} {m} {y} x at n e room same size = record { front = behind l m y x (take at l) at n e room same size refl }

-- one piece behind another
pub joined : {x y l m n : List ℕ} {at middle end : ℕ} → Stands x l at m middle → Stands y m middle n end → Stands (x ++ y) l at n end
joined p q = record { front = rw (q.front, p.front, append_assoc) }

-- the same bytes in other words
pub reworded : {x y l m : List ℕ} {at end : ℕ} → x ≡ y → Stands x l at m end → Stands y l at m end
reworded {l = l} {at = at} e p = record { front = p.front ∙ ap (λ z. take at l ++ z) e }

-- a number that is put together from two bytes has just these
pub two_bytes : (n a b : ℕ) → a < 256 → b < 256 → n ≡ 256 * a + b → word n ≡ a ∷ b ∷ []
two_bytes n a b ha hb is =
    let high : n / 256 % 256 ≡ a = omega arith in
    let low : n % 256 ≡ b = omega arith in
    λ i. high i ∷ low i ∷ []

-- of a number its last two bytes count
pub last_two : (n : ℕ) → word (n % 65536) ≡ word n
last_two n =
    let high : n % 65536 / 256 % 256 ≡ n / 256 % 256 = omega arith in
    let low : n % 65536 % 256 ≡ n % 256 = omega arith in
    λ i. high i ∷ low i ∷ []

-- all pieces, to the end
pub image_laid : (a b n x : List ℕ) {v m y l p q r s t : List ℕ} → Stands v l 0 p 16 → Stands m p 16 q 24 → Stands (a ++ b) q 24 r 48
    → Stands (n ++ x) r 48 s 56 → Stands y s 56 t 64 → length t ≡ 64 → t ≡ v ++ m ++ a ++ b ++ n ++ (x ++ y)
image_laid a b n x {v} {m} {y} {t = t} hv hm hab hn he size =
    let all : take 64 t ≡ t = rw size at (take-length t) in
    let front = v ++ m ++ a ++ b in
    sym all ∙ rw (he.front, hn.front, hab.front, hm.front, hv.front, ← append_assoc (v ++ m) a b, ← append_assoc front n x, append_assoc (front ++ n) x y)
