-- In one part, or in an upper and a lower one: all rows are kept and turned over, and the counts are those of the whole picture.
use mathlib.Core.Path.{◌≡◌}
use Prim.Native.Nat.{ℕ, ◌+◌, ◌-◌, ◌*◌, ◌≤◌, ◌<◌}
use native.Mathlib.Nat.{le_refl}
use native.Mathlib.Omega.{arith}
use lib.ListN.{length, get_or}
use Rattle.pattern.proofs.Counted.{once_counted, both_counted}
use Rattle.drawing.proofs.Drawing.{drawn_turned}
use Rattle.drawing.proofs.Reach.{reach, room, few_turned}
use Rattle.drawing.proofs.Turned.{more_turned}
use Rattle.drawing.proofs.Kept.{both_kept}
use Rattle.drawing.proofs.draw.Goals as goal

-- ---- one part

pub eight-requires : goal.eight-requires
eight-requires c =
    let a = c.args in
    let h = reach a.row (length a.pattern.now) c.min.result c.requires.1 c.requires.2 c.min.ensures in record {
      in_picture = (c.requires.0, le_refl a.row, h.inside, h.shown);
      from_le_to = (h.on, omega arith, room h a.at _ c.requires.3);
    }

pub returns : goal.returns
returns c =
    let a = c.args in
    let e = c.eight.ensures in
    let h = reach a.row (length a.pattern.now) c.min.result c.requires.1 c.requires.2 c.min.ensures in
    let small : (k : ℕ) → get_or a.pattern.now k 0 < 256 = λ k. omega (arith, c.type_inv.pattern k) in
    let end = a.row + c.min.result in
    let (dark, all) = once_counted a.pattern.now a.column a.row a.rows.now small end _ _ h.on h.inside h.beneath e.dark_value.0 e.dark_value.1 in record {
      rows_after = drawn_turned a.pattern.now a.column a.row small a.rows.now _ end c.told-rows e.turned h.beneath;
      place_after = rw h.many at e.place_after;
      turns = few_turned a.pattern.now a.column a.row end _ _ h dark all e.dark_bound.1;
    }

-- ---- two parts

sum_few : (row end a b : ℕ) → row + 8 ≤ end → a ≤ 8 * (row + 8 - row) → b ≤ 8 * (end - (row + 8)) → a + b ≤ 8 * (end - row)
sum_few row end a b h s t = omega arith

both : (a b c d : ℕ) → a + b + (c + d) ≡ a + c + (b + d)
both a b c d = omega arith

pub eight-upper-requires : goal.eight-upper-requires
eight-upper-requires c =
    let a = c.args in
    let h = reach a.row (length a.pattern.now) c.min.result c.requires.1 c.requires.2 c.min.ensures in record {
      in_picture = (c.requires.0, le_refl a.row, omega (arith, h.inside), omega (arith, h.shown));
      from_le_to = (omega arith, le_refl (a.row + 8), omega arith);
    }

pub eight-lower-requires : goal.eight-lower-requires
eight-lower-requires c =
    let a = c.args in
    let h = reach a.row (length a.pattern.now) c.min.result c.requires.1 c.requires.2 c.min.ensures in record {
      in_picture = (c.requires.0, omega arith, h.inside, h.shown);
      from_le_to = (omega (arith, c.if-middle-end.true), omega (arith, h.most), omega (arith, h.most));
    }

pub returns-then-middle-end : goal.returns-then-middle-end
returns-then-middle-end c =
    let a = c.args in
    let e = c.eight-upper.ensures in
    let f = c.eight-lower.ensures in
    let h = reach a.row (length a.pattern.now) c.min.result c.requires.1 c.requires.2 c.min.ensures in
    let row = a.row in
    let middle = row + 8 in
    let end = row + c.min.result in
    let on : row ≤ middle = omega arith in
    let beyond : middle ≤ end = omega (arith, c.if-middle-end.true) in
    let small : (k : ℕ) → get_or a.pattern.now k 0 < 256 = λ k. omega (arith, c.type_inv.pattern k) in
    let (dark, all) = both_counted a.pattern.now a.column a.row a.rows.now small c.eight-upper.new.rows middle end _ _ _ _
    on beyond h.inside h.beneath e.turned.beneath e.dark_value.0 f.dark_value.0 e.dark_value.1 f.dark_value.1 in
    let few = sum_few row end _ _ beyond e.dark_bound.1 f.dark_bound.1 in
    let turned = more_turned a.pattern.now a.column row row a.rows.now middle end _ _ e.turned f.turned on beyond in
    let kept = both_kept a.rows.now _ a.place.now _ _ a.at (a.at + 64) row middle end (omega arith) on beyond (rw c.told-rows h.inside)
    (room h a.at _ c.requires.3) e.turned.sized e.turned.beneath e.place_after f.place_after in
    let u = c.eight-upper.result in
    let l = c.eight-lower.result in record {
      rows_after = drawn_turned a.pattern.now a.column row small a.rows.now _ end c.told-rows turned h.beneath;
      place_after = rw h.many at kept;
      turns = few_turned a.pattern.now a.column row end _ _ h dark (rw (both u.dark u.lit l.dark l.lit) at all) (rw (both u.dark u.lit l.dark l.lit) at few);
    }
