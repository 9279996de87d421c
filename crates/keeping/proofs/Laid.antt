-- What is laid over a place: the mark and the fields, zeros behind them, the inputs behind the last, and the variables between mark and
-- fields. Then, in the history, the old bytes over the first zeros.
use mathlib.Core.Path.{◌≡◌, refl, sym, ap, ◌∙◌}
use mathlib.Core.List.{List, [], ◌++◌, append_assoc, append-nil}
use Prim.Native.Nat.{ℕ, ◌+◌, ◌-◌, ◌*◌, ◌≤◌}
use native.Mathlib.Omega.{arith}
use lib.ListN.{length, take, drop, replicate, length-take, length-drop, length-append, length-replicate, replicate-append-replicate, drop_of_length-le}
use lib.Seq.{take_at, drop_at, take-append-le, drop-append-add, take-take}
use Rattle.rules.specs.declared.Action.{Action}
use Rattle.rules.specs.declared.Machine.{Machine}
use Rattle.rules.specs.declared.Change.{Change}
use Rattle.rules.specs.declared.Change.TheVariants.{Nothing}
use Rattle.rules.specs.Memory.{over}
use Rattle.rules.specs.Record.{old, count, mark, fields, inputs, record_with}
use Rattle.rules.specs.Rows.{bytes_of}
use Rattle.rules.proofs.Back.{mark_two}
use Rattle.rules.proofs.Laid.{behind}
use Rattle.keeping.specs.Writable.{blank, Reaches}
use Rattle.keeping.proofs.Reached.{old_counted}

-- n zeros less, whatever stands behind them
zeros_behind : (n k : ℕ) (t : List ℕ) → n ≤ k → drop n (replicate k 0 ++ t) ≡ replicate (k - n) 0 ++ t
zeros_behind n k t h =
    let e : k ≡ n + (k - n) = omega arith in
    let zeros : replicate {A = ℕ} k 0 ≡ replicate n 0 ++ replicate (k - n) 0 =
    ap (λ (j : ℕ). replicate {A = ℕ} j 0) e ∙ sym (replicate-append-replicate {A = ℕ} n (k - n) 0) in
    rw (zeros, append_assoc) (drop_at (replicate n 0) (replicate (k - n) 0 ++ t) n (length-replicate n 0))

-- x is laid over the first of k zeros
over_zeros : (p b x t : List ℕ) (at n k : ℕ) → p ≡ b ++ (replicate k 0 ++ t) → length b ≡ at → length x ≡ n → n ≤ k
    → over p at x n ≡ b ++ x ++ (replicate (k - n) 0 ++ t)
over_zeros p b x t at n k e hb hx h =
    rw (e, take_at b (replicate k 0 ++ t) at hb, ← hb, drop-append-add b (replicate k 0 ++ t) n, zeros_behind n k t h)

-- x is laid over the last bytes
over_last : (p q t x : List ℕ) (at : ℕ) → p ≡ q ++ t → length q ≡ at → length t ≡ length x → over p at x (length x) ≡ q ++ x
over_last p q t x at e hq ht =
    let sized : length (q ++ t) ≡ at + length x = simp length-append (omega arith) in
    rw (e, take_at q t at hq, drop_of_length-le (q ++ t) {i = at + length x} (omega arith)) (append-nil (q ++ x))

-- b is a mark and sixteen bytes, over which the variables are laid
between : (p b m v r : List ℕ) → p ≡ b ++ r → length b ≡ 18 → take 2 b ≡ m → over p 2 v 16 ≡ m ++ v ++ r
between p b m v r e hb hm =
    rw (e, take-append-le 2 b r (omega arith), hm, drop_at b r 18 hb)

-- pieces, however they are put together
four_pieces : (b f z i : List ℕ) → b ++ f ++ z ++ i ≡ b ++ (f ++ z ++ i)
four_pieces b f z i = simp append_assoc

-- all of a record is laid into a place: zeros follow the first k bytes of what stands between the variables and the inputs
pub all_laid : (p m f v i : List ℕ) (k : ℕ) {p₁ p₂ p₃ p₄ p₅ y x : List ℕ} → k ≤ 270
    → p₁ ≡ over p 0 y (length y) → y ≡ m → length m ≡ 2 → length p₁ ≡ 292
    → p₂ ≡ over p₁ 18 f k → length f ≡ k → length p₂ ≡ 292
    → p₃ ≡ over p₂ (18 + k) (replicate (270 - k) 0) (270 - k)
    → p₄ ≡ over p₃ 288 x (length x) → x ≡ i → length i ≡ 4
    → p₅ ≡ over p₄ 2 v 16
    → p₅ ≡ m ++ v ++ f ++ replicate (270 - k) 0 ++ i
all_laid p m f v i k {p₁} {p₂} {p₃} {p₄} {p₅} {y} {x} few e₁ hm two s₁ e₂ counted s₂ e₃ e₄ hi four e₅ =
    let b : List ℕ = take 18 p₁ in
    let o : List ℕ = replicate (270 - k) 0 in
    let t : List ℕ = drop 288 p₂ in
    let marked : take 2 p₁ ≡ m = behind p p₁ y m [] 0 2 e₁ (omega arith) hm two refl in
    let laid : p₂ ≡ over p₁ 18 f (length f) = rw counted e₂ in
    let front : take (18 + k) p₂ ≡ b ++ f = behind p₁ p₂ f f b 18 k laid (omega arith) refl counted refl in
    let sized : length b ≡ 18 = simp length-take (omega arith) in
    let end : 18 + k + (270 - k) ≡ 288 = omega arith in
    let cleared : p₃ ≡ b ++ f ++ o ++ t = rw (e₃, front, end) in
    let full : length (b ++ f ++ o) ≡ 288 = simp (length-append, length-replicate) (omega arith) in
    let left : length t ≡ length x = simp length-drop (omega (arith, ap length hi)) in
    let whole : p₄ ≡ b ++ f ++ o ++ i = rw hi at (e₄ ∙ over_last p₃ (b ++ f ++ o) t x 288 cleared full left) in
    e₅
    ∙ between p₄ b m v (f ++ o ++ i) (whole ∙ four_pieces b f o i) sized (take-take 2 18 p₁ (omega arith) ∙ marked)
    ∙ sym (four_pieces (m ++ v) f o i)

-- where nothing changes but the state, the last four of the fields are zeros like the old bytes
pub state_blank : (m : Machine) (a : Action)
    → mark Nothing ++ m.v ++ take 10 (fields m Nothing) ++ replicate 260 0 ++ inputs a ≡ blank m Nothing a
unfolding blank
state_blank m a =
    let b = mark Nothing ++ m.v in
    ap (λ (l : List ℕ). l ++ inputs a)
    (append_assoc b (take 10 (fields m Nothing)) (replicate 260 0) ∙ sym (append_assoc b (fields m Nothing) (replicate 256 0)))

-- ---- THE RECORD, in the history

split : (h r₁ z i t : List ℕ) → h ++ (r₁ ++ z ++ i) ++ t ≡ h ++ r₁ ++ (z ++ (i ++ t))
split h r₁ z i t = simp append_assoc

joined : (h r₁ o z i t : List ℕ) → h ++ r₁ ++ o ++ (z ++ (i ++ t)) ≡ h ++ (r₁ ++ o ++ z ++ i) ++ t
joined h r₁ o z i t = simp append_assoc

-- without old bytes it is whole already
pub nothing_old : (m : Machine) (a : Action) → blank m Nothing a ≡ record_with m Nothing [] a
unfolding blank record_with
nothing_old m a = ap (λ (l : List ℕ). l ++ replicate 256 0 ++ inputs a) (sym (append-nil (mark Nothing ++ m.v ++ fields m Nothing)))

-- and else it is whole with them
pub kept : (h h₁ h₂ memory rows : List ℕ) (n : ℕ) (m : Machine) (c : Change) (a : Action) → length m.v ≡ 16 → 292 * n + 292 ≤ length h
    → Reaches c memory rows → h₁ ≡ over h (292 * n) (blank m c a) 292
    → h₂ ≡ over h₁ (292 * n + 32) (old c memory (bytes_of rows)) (count c)
    → h₂ ≡ over h (292 * n) (record_with m c (old c memory (bytes_of rows)) a) 292
unfolding blank record_with
kept h h₁ h₂ memory rows n m c a sixteen room r e₁ e₂ =
    let at = 292 * n in
    let o = old c memory (bytes_of rows) in
    let r₁ : List ℕ = mark c ++ m.v ++ fields m c in
    let (counted, few) = old_counted memory rows c r in
    let sized : length (take at h ++ r₁) ≡ at + 32 = simp (length-append, length-take, mark_two c) (omega arith) in
    e₂
    ∙ over_zeros h₁ (take at h ++ r₁) o (inputs a ++ drop (at + 292) h) (at + 32) (count c) 256
    (e₁ ∙ split (take at h) r₁ (replicate 256 0) (inputs a) (drop (at + 292) h)) sized counted few
    ∙ joined (take at h) r₁ o (replicate (256 - count c) 0) (inputs a) (drop (at + 292) h)
