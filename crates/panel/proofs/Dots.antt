-- A byte of the panel is half of a doubled byte of the picture: so the bytes laid one by one are the panel, and its dots are the spots.
use mathlib.Core.Path.{◌≡◌, refl, sym, ap, ap₂, ◌∙◌}
use mathlib.Core.Bool.{true, false, false≢true}
use mathlib.Core.List.{List, ◌++◌}
use Prim.Native.Nat.{ℕ, zero, suc, ◌+◌, ◌-◌, ◌*◌, ◌/◌, ◌%◌, ◌≤◌, ◌<◌}
use native.Mathlib.Nat.{not-suc-le-zero, add-zero, zero-add}
use native.Mathlib.Decide.{ℕ_discrete, dec_lt}
use native.Mathlib.Omega.{arith}
use lib.ListN.{get_or, set, length, take, drop, length-set, length-take, length-drop, get_or-append}
use lib.Seq.{ext_get_or, get_or-set_same, get_or-set_other, get_or-take, get_or-drop}
use Rattle.rules.specs.Number.{bit}
use Rattle.rules.specs.Refusal.{Outcome, number as refusal}
use Rattle.rules.specs.Picture.{spot, byte_of}
use Rattle.std.specs.Int.{w32, to_be_bytes}
use Rattle.std.proofs.lemmas.List.{get_or-append_right}
use Rattle.rules.specs.Memory.{over}
use Rattle.rules.proofs.Laid.{none as none_laid, more as one_laid, laid}
use Rattle.rules.proofs.OnlyOne.{one_outcome}
use Rattle.rules.proofs.Drawn.{number, same, bit_lit, digit, byte_number, same_byte}
use Rattle.panel.specs.Panel.{PanelOf, dot_bytes, panel_of, twice, fits, Shows}
use Rattle.panel.specs.Bytes.{pair, source, above, Upper, Repeated, Doubled}

-- ---- a byte and its bits

-- four bits doubled are a byte; eight are two bytes, which a number of two bytes keeps apart
abbrev quad : (ℕ → ℕ) → ℕ
quad f = f 0 * 192 + f 1 * 48 + f 2 * 12 + f 3 * 3

quad_number : (f : ℕ → ℕ) → number 2 8 (λ i. f (i / 2)) ≡ quad f
unfolding number
quad_number f = omega arith

quad_byte : (f : ℕ → ℕ) → ((i : ℕ) → f i < 2) → quad f < 256
quad_byte f lits = omega (arith, lits 0, lits 1, lits 2, lits 3)

two_quads : (a b c d e f g h : ℕ)
    → a * 0xC000 + b * 0x3000 + c * 0x0C00 + d * 0x0300 + e * 0x00C0 + f * 0x0030 + g * 0x000C + h * 0x0003
    ≡ (a * 192 + b * 48 + c * 12 + d * 3) * 256 + (e * 192 + f * 48 + g * 12 + h * 3)
two_quads a b c d e f g h = omega arith

apart : (h l : ℕ) → h < 256 → l < 256 → ((h * 256 + l) / 256 % 256 ≡ h) × ((h * 256 + l) % 256 ≡ l)
apart h l a b = (omega arith, omega arith)

module _ (b : ℕ) where
  abbrev upper_four : ℕ → ℕ
  upper_four i = bit (7 - i) b

  abbrev lower_four : ℕ → ℕ
  lower_four i = bit (3 - i) b

  doubled : twice b ≡ quad upper_four * 256 + quad lower_four
  unfolding twice
  doubled = two_quads (bit 7 b) (bit 6 b) (bit 5 b) (bit 4 b) (bit 3 b) (bit 2 b) (bit 1 b) (bit 0 b)

  halves : ((quad upper_four * 256 + quad lower_four) / 256 % 256 ≡ quad upper_four) × ((quad upper_four * 256 + quad lower_four) % 256 ≡ quad lower_four)
  halves = apart (quad upper_four) (quad lower_four) (quad_byte upper_four (λ i. bit_lit (7 - i) b)) (quad_byte lower_four (λ i. bit_lit (3 - i) b))

  high_half : number 2 8 (λ i. bit (7 - i / 2) b) ≡ twice b / 256 % 256
  high_half = quad_number upper_four ∙ sym (ap (λ (n : ℕ). n / 256 % 256) doubled ∙ halves.0)

  low_half : number 2 8 (λ i. bit (3 - i / 2) b) ≡ twice b % 256
  low_half = quad_number lower_four ∙ sym (ap (λ (n : ℕ). n % 256) doubled ∙ halves.1)

pub twice_word : (b : ℕ) → twice b < 65536
twice_word b =
    rw (doubled b)
    (omega (arith, quad_byte (upper_four b) (λ i. bit_lit (7 - i) b), quad_byte (lower_four b) (λ i. bit_lit (3 - i) b)))

module _ (a b n : ℕ) (h : b < 65536) (e : n ≡ 65536 * a + b) where
  wide_high : n / 65536 ≡ a
  wide_high = omega arith

  wide_low : n % 65536 ≡ b
  wide_low = omega arith

-- ---- the bytes of the panel

-- the first byte of the panel that shows byte k of the picture
abbrev upper : ℕ → ℕ
upper k = 32 * (k / 8) + 2 * (k % 8)

parity : (j : ℕ) → j % 16 ≡ 2 * (j % 16 / 2) + j % 2
parity j = omega arith

eights : (c d : ℕ) → d < 8 → ((8 * c + d) % 8 ≡ d) × ((8 * c + d) / 8 ≡ c)
eights c d h = (omega arith, omega arith)

column : (j i : ℕ) → i < 8 → ((8 * (j % 16) + i) / 2 % 8 ≡ 4 * (j % 2) + i / 2) × ((8 * (j % 16) + i) / 2 / 8 ≡ j % 16 / 2)
column j i h =
    let spots : (8 * (j % 16) + i) / 2 ≡ 8 * (j % 16 / 2) + (4 * (j % 2) + i / 2) = omega (arith, parity j) in
    rw spots (eights (j % 16 / 2) (4 * (j % 2) + i / 2) (omega arith))

rows : (j : ℕ) → j / 16 / 2 ≡ j / 32
rows j = omega arith

-- four bytes show a byte: in each of two rows the high half and the low
place : (j k : ℕ) → source j ≡ k → j ≡ upper k + 16 * (j / 16 % 2) + j % 2
place j k e =
    let row : k / 8 ≡ j / 32 = omega arith in
    let half : k % 8 ≡ j % 16 / 2 = omega arith in
    rw (row, half) (omega (arith, parity j))

module _ (f : ℕ → ℕ → ℕ) where
  dots_length : (n j : ℕ) → length (dot_bytes f n j) ≡ n
  dots_length zero j = refl
  dots_length (suc n) j = ap suc (dots_length n (j + 1))

  dots_at : (n j i : ℕ) → i < n → get_or (dot_bytes f n j) i 0 ≡ byte_of f (8 * ((j + i) % 16)) ((j + i) / 16)
  dots_at zero j i h = absurd (not-suc-le-zero h)
  dots_at (suc n) j zero h = rw add-zero
  dots_at (suc n) j (suc i) h =
      let on : j + 1 + i ≡ j + suc i = omega arith in
      dots_at n (j + 1) i (omega arith) ∙ rw on

module _ (picture : List ℕ) where
  abbrev shown : ℕ → ℕ → ℕ
  shown x y = spot picture (x / 2) (y / 2)

  pub panel_length : length (panel_of picture) ≡ 1024
  unfolding panel_of
  panel_length = dots_length shown 1024 0

  panel_at : (j : ℕ) → j < 1024 → get_or (panel_of picture) j 0 ≡ number 2 8 (λ i. shown (8 * (j % 16) + i) (j / 16))
  unfolding panel_of
  panel_at j h = dots_at shown 1024 0 j h ∙ rw zero-add (byte_number shown (8 * (j % 16)) (j / 16))

  -- its even bytes are high halves, and its odd bytes low ones
  module _ (j k : ℕ) (h : j < 1024) (e : source j ≡ k) where
    panel_high : j % 2 ≡ 0 → get_or (panel_of picture) j 0 ≡ twice (get_or picture k 0) / 256 % 256
    panel_high z =
        panel_at j h ∙ same 2 _ _ 8 (λ i l. ap₂ (λ (a b : ℕ). bit (7 - a) (get_or picture b 0)) (omega (arith, column j i l)) (rw (rows j, (column j i l).1) e))
        ∙ high_half (get_or picture k 0)

    panel_low : j % 2 ≡ 1 → get_or (panel_of picture) j 0 ≡ twice (get_or picture k 0) % 256
    panel_low z =
        panel_at j h ∙ same 2 _ _ 8 (λ i l. ap₂ (λ (a b : ℕ). bit a (get_or picture b 0)) (omega (arith, column j i l)) (rw (rows j, (column j i l).1) e))
        ∙ low_half (get_or picture k 0)

-- ---- two bytes laid

module _ (l : List ℕ) (at n : ℕ) where
  abbrev first : List ℕ
  first = set l at (n / 256 % 256)

  pair_length : length (pair l at n) ≡ length l
  pair_length = simp length-set

  pair_other : (j : ℕ) → (j ≡ at → ⊥) → (j ≡ at + 1 → ⊥) → get_or (pair l at n) j 0 ≡ get_or l j 0
  pair_other j a b = get_or-set_other first (at + 1) j (n % 256) 0 b ∙ get_or-set_other l at j (n / 256 % 256) 0 a

  pair_high : at + 1 < length l → get_or (pair l at n) at 0 ≡ n / 256 % 256
  pair_high h = get_or-set_other first (at + 1) at (n % 256) 0 (omega arith) ∙ get_or-set_same l at (n / 256 % 256) 0 (omega arith)

  pair_low : at + 1 < length l → get_or (pair l at n) (at + 1) 0 ≡ n % 256
  pair_low h = get_or-set_same first (at + 1) (n % 256) 0 (simp length-set h)

-- ---- four bytes laid: two pairs

pub four_laid : (l : List ℕ) (at n : ℕ) → at + 3 < length l
    → over l at (to_be_bytes w32 n) 4 ≡ pair (pair l at (n / 65536)) (at + 2) (n % 65536)
four_laid l at n h =
    let s = to_be_bytes w32 n in
    let one = one_laid l at s 4 l 0 (n / 65536 / 256 % 256) (none_laid l at s 4 refl (omega arith)) (omega arith) (omega arith) in
    let two = one_laid l at s 4 _ 1 (n / 65536 % 256) one (omega arith) (omega arith) in
    let three = one_laid l at s 4 _ 2 (n % 65536 / 256 % 256) two (omega arith) (omega arith) in
    let four = one_laid l at s 4 _ 3 (n % 65536 % 256) three (omega arith) (omega arith) in
    let last : at + 2 + 1 ≡ at + 3 = omega arith in
    sym (rw last (rw add-zero at (laid l at s 4 _ 4 four (omega arith))))

-- ---- the upper rows on the way

module _ (picture l : List ℕ) where
  pub none : length l ≡ 1024 → Upper picture l 0
  none e = record { size = e; some = omega arith; done = λ j h u s. absurd (not-suc-le-zero s) }

  pub more : (k n : ℕ) → Upper picture l k → k < 256 → n ≡ twice (get_or picture k 0) → Upper picture (pair l (upper k) n) (k + 1)
  more k n p h e =
      record { size = pair_length l (upper k) n ∙ p.size; some = omega arith; done = λ j hj u s. here j hj u s (ℕ_discrete (source j) k) }
    where
      side : (j : ℕ) → j < 1024 → j / 16 % 2 ≡ 0 → source j ≡ k → Dec (j % 2 ≡ 0)
          → get_or (pair l (upper k) n) j 0 ≡ get_or (panel_of picture) j 0
      side j hj u s (yes z) =
          let d : j ≡ upper k = omega (arith, place j k s) in
          ap (λ (m : ℕ). get_or (pair l (upper k) n) m 0) d ∙ pair_high l (upper k) n (omega (arith, p.size)) ∙ rw e (sym (panel_high picture j k hj s z))
      side j hj u s (no z) =
          let o : j % 2 ≡ 1 = omega arith in
          let d : j ≡ upper k + 1 = omega (arith, place j k s) in
          ap (λ (m : ℕ). get_or (pair l (upper k) n) m 0) d ∙ pair_low l (upper k) n (omega (arith, p.size)) ∙ rw e (sym (panel_low picture j k hj s o))

      here : (j : ℕ) → j < 1024 → j / 16 % 2 ≡ 0 → source j < k + 1 → Dec (source j ≡ k)
          → get_or (pair l (upper k) n) j 0 ≡ get_or (panel_of picture) j 0
      here j hj u s (yes z) = side j hj u z (ℕ_discrete (j % 2) 0)
      here j hj u s (no z) =
          pair_other l (upper k) n j (λ d. z (omega arith)) (λ d. z (omega arith)) ∙ p.done j hj u (omega arith)

  pub upper_all : (k : ℕ) → Upper picture l k → 256 ≤ k → Upper picture l 256
  upper_all k p h =
      let e : k ≡ 256 = omega arith in
      rw e at p

-- two bytes of the picture at a time, in one number
pub two_more : (picture l : List ℕ) (two n : ℕ) → Upper picture l (2 * two) → two < 128
    → n ≡ 65536 * twice (get_or picture (2 * two) 0) + twice (get_or picture (2 * two + 1) 0)
    → Upper picture (pair (pair l (upper (2 * two)) (n / 65536)) (upper (2 * two) + 2) (n % 65536)) (2 * (two + 1))
two_more picture l two n p h e =
    let k = 2 * two in
    let right : upper (k + 1) ≡ upper k + 2 = omega arith in
    let next : k + 1 + 1 ≡ 2 * (two + 1) = omega arith in
    let high : n / 65536 ≡ twice (get_or picture k 0) = wide_high _ _ n (twice_word _) e in
    let low : n % 65536 ≡ twice (get_or picture (k + 1) 0) = wide_low _ _ n (twice_word _) e in
    rw (right, next) at (more picture (pair l (upper k) (n / 65536)) (k + 1) (n % 65536) (more picture l k (n / 65536) p (omega arith) high) (omega arith) low)

-- ---- a row repeated: what stands up to its end, the row once more, and what stands behind that

module _ (l u v c : List ℕ) (y : ℕ) (size : length l ≡ 1024) (h : y < 32) (front : u ≡ take (32 * y + 16) l) (back : v ≡ drop (32 * y + 16) l)
    (row_is : c ≡ drop (32 * y) u) where
  abbrev end : ℕ
  end = 32 * y + 16

  abbrev twofold : List ℕ
  twofold = u ++ (c ++ drop 16 v)

  front_long : length u ≡ end
  front_long = ap length front ∙ simp length-take (omega arith)

  row_long : length c ≡ 16
  row_long = ap length row_is ∙ simp length-drop (omega (arith, front_long))

  in_front : (j : ℕ) → j < end → get_or u j 0 ≡ get_or l j 0
  in_front j s = ap (λ (m : List ℕ). get_or m j 0) front ∙ get_or-take end l j 0 s

  ahead : (j : ℕ) → j < end → get_or twofold j 0 ≡ get_or l j 0
  ahead j s = get_or-append u (c ++ drop 16 v) 0 j (omega (arith, front_long)) ∙ in_front j s

  copied : (j : ℕ) → end ≤ j → j < end + 16 → get_or twofold j 0 ≡ get_or l (j - 16) 0
  copied j b s =
      let there : 32 * y + (j - end) ≡ j - 16 = omega arith in
      get_or-append_right u (c ++ drop 16 v) end j 0 front_long b ∙ get_or-append c (drop 16 v) 0 (j - end) (omega (arith, row_long))
      ∙ ap (λ (m : List ℕ). get_or m (j - end) 0) row_is ∙ get_or-drop (32 * y) u (j - end) 0 ∙ rw there (in_front (j - 16) (omega arith))

  behind : (j : ℕ) → end + 16 ≤ j → get_or twofold j 0 ≡ get_or l j 0
  behind j b =
      let there : end + (16 + (j - end - 16)) ≡ j = omega arith in
      get_or-append_right u (c ++ drop 16 v) end j 0 front_long (omega arith) ∙ get_or-append_right c (drop 16 v) 16 (j - end) 0 row_long (omega arith)
      ∙ get_or-drop 16 v (j - end - 16) 0 ∙ ap (λ (m : List ℕ). get_or m (16 + (j - end - 16)) 0) back
      ∙ get_or-drop end l (16 + (j - end - 16)) 0 ∙ ap (λ (i : ℕ). get_or l i 0) there

  pub row_repeated : Repeated l y twofold
  row_repeated =
      record {
        row = λ j s. half j s (dec_lt j end);
        rest = λ j ne. outside j ne (dec_lt j end);
      }
    where
      half : (j : ℕ) → j / 32 ≡ y → Dec (j < end) → get_or twofold j 0 ≡ get_or l (above j) 0
      half j s (yes b) =
          let same_place : above j ≡ j = omega arith in
          rw same_place (ahead j b)
      half j s (no b) =
          let up : above j ≡ j - 16 = omega arith in
          rw up (copied j (omega arith) (omega arith))

      outside : (j : ℕ) → (j / 32 ≡ y → ⊥) → Dec (j < end) → get_or twofold j 0 ≡ get_or l j 0
      outside j ne (yes b) = ahead j b
      outside j ne (no b) = behind j (omega arith)

-- ---- all rows repeated

module _ (l₀ : List ℕ) where
  pub rows_none : length l₀ ≡ 1024 → Doubled l₀ 0 l₀
  rows_none e = record { size = e; some = omega arith; done = λ j s. absurd (not-suc-le-zero s); rest = λ j s. refl }

  pub rows_more : (l l' : List ℕ) (y : ℕ) → Doubled l₀ y l → Repeated l y l' → length l' ≡ length l → y < 32 → Doubled l₀ (y + 1) l'
  rows_more l l' y p q e h =
      record {
        size = e ∙ p.size;
        some = omega arith;
        done = λ j s. here j s (ℕ_discrete (j / 32) y);
        rest = λ j s. q.rest j (omega arith) ∙ p.rest j (omega arith);
      }
    where
      here : (j : ℕ) → j / 32 < y + 1 → Dec (j / 32 ≡ y) → get_or l' j 0 ≡ get_or l₀ (above j) 0
      here j s (yes z) = q.row j z ∙ p.rest (above j) (omega arith)
      here j s (no z) = q.rest j z ∙ p.done j (omega arith)

  pub rows_all : (l : List ℕ) (y : ℕ) → Doubled l₀ y l → 32 ≤ y → Doubled l₀ 32 l
  rows_all l y p h =
      let e : y ≡ 32 = omega arith in
      rw e at p

-- upper rows that show the picture, each of them twice, are the panel
pub both_rows : (picture l l' : List ℕ) → Upper picture l 256 → Doubled l 32 l' → l' ≡ panel_of picture
both_rows picture l l' p q =
    ext_get_or 0 l' (panel_of picture) (q.size ∙ sym (panel_length picture)) λ j s.
    let h : j < 1024 = omega (arith, q.size) in
    q.done j (omega arith) ∙ p.done (above j) (omega arith) (omega arith) (omega arith)
    ∙ panel_at picture (above j) (omega arith) ∙ same_rows j h
  where
    same_rows : (j : ℕ) → j < 1024
        → number 2 8 (λ i. shown picture (8 * (above j % 16) + i) (above j / 16)) ≡ get_or (panel_of picture) j 0
    same_rows j h =
        let col : above j % 16 ≡ j % 16 = omega arith in
        let row : above j / 16 / 2 ≡ j / 16 / 2 = omega arith in
        rw (col, row) (sym (panel_at picture j h))

-- ---- dot for dot

pub dot_for_dot : (picture : List ℕ) → PanelOf picture (panel_of picture)
dot_for_dot picture =
    record {
      size = panel_length picture;
      dots = λ x y hx hy.
          let j = 16 * y + x / 8 in
          let col : 8 * (j % 16) + x % 8 ≡ x = omega arith in
          let row : j / 16 ≡ y = omega arith in
          ap (bit (7 - x % 8)) (panel_at picture j (omega arith))
          ∙ digit (λ i. shown picture (8 * (j % 16) + i) (j / 16)) (λ i. bit_lit _ _) 8 (x % 8) (omega arith)
          ∙ ap₂ (shown picture) col row;
    }

-- two panels of one picture are equal
pub only_one : (picture p q : List ℕ) → ((j : ℕ) → get_or p j 0 < 256) → ((j : ℕ) → get_or q j 0 < 256)
    → PanelOf picture p → PanelOf picture q → p ≡ q
only_one picture p q hp hq a b =
    ext_get_or 0 p q (a.size ∙ sym b.size) λ j h.
    same_byte (get_or p j 0) (get_or q j 0) (hp j) (hq j) λ i l.
    let x = 8 * (j % 16) + i in
    let y = j / 16 in
    let bit_is : 7 - x % 8 ≡ 7 - i = omega arith in
    let byte_at : 16 * y + x / 8 ≡ j = omega arith in
    rw (bit_is, byte_at) at (a.dots x y (omega arith) (omega (arith, a.size)) ∙ sym (b.dots x y (omega arith) (omega (arith, a.size))))

-- ---- the call

module _ (picture before : List ℕ) (o : Outcome) where
  pub refused : fits picture before ≡ false → refusal o ≡ 9 → Shows picture before o before
  refused e n = record { says = rw e n; bytes = rw e; dots = λ t. absurd (false≢true (sym e ∙ t)) }

  pub filled : (after : List ℕ) → fits picture before ≡ true → refusal o ≡ 0 → after ≡ panel_of picture → Shows picture before o after
  filled after e n is = record { says = rw e n; bytes = rw e is; dots = λ t. rw is (dot_for_dot picture) }

-- two answers to one call are equal, refused or not
pub only_one_call : (picture before : List ℕ) (o p : Outcome) (after other : List ℕ)
    → Shows picture before o after → Shows picture before p other → (o ≡ p) × (after ≡ other)
only_one_call picture before o p after other a b = (one_outcome o p (a.says ∙ sym b.says), a.bytes ∙ sym b.bytes)
