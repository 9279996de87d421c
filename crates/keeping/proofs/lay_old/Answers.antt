-- In each arm what is laid is what the change names: nothing, a part of memory, or whole rows.
use mathlib.Core.Path.{◌≡◌, sym}
use mathlib.Core.List.{List, [], append-nil}
use Prim.Native.Nat.{ℕ, ◌+◌, ◌-◌, ◌*◌, ◌/◌, ◌%◌, ◌≤◌}
use native.Mathlib.Nat.{add-zero}
use native.Mathlib.Omega.{arith}
use borrow.Author.Rules.{rules}
use lib.ListN.{length, take, drop, take-append-drop}
use Rattle.rules.specs.Memory.{part, over}
use Rattle.rules.specs.Rows.{bytes_of}
use Rattle.rules.proofs.Parts.{part_length, lent_part}
use Rattle.keeping.proofs.lay_old.Goals as goal

nothing_laid : (p : List ℕ) (at : ℕ) → p ≡ over p at [] 0
nothing_laid p at = sym (rw (append-nil (take at p), add-zero at) (take-append-drop at p))

-- a part of memory, as it was lent
module _ (m : List ℕ) (s n : ℕ) (h : s + n ≤ length m) where
  lent_length : length (take (s + n - s) (drop s m)) ≡ n
  lent_length = rw (lent_part s n m) (part_length m s n h)

  part_laid : (p q : List ℕ) (at : ℕ) → q ≡ over p at (take (s + n - s) (drop s m)) (length (take (s + n - s) (drop s m)))
      → q ≡ over p at (part m s n) n
  part_laid p q at e = rw (lent_part s n m, part_length m s n h) at e

-- eight bytes for each row
rows_laid : (p q rows : List ℕ) (at s n : ℕ) → s % 8 ≡ 0 → n % 8 ≡ 0
    → q ≡ over p at (part (bytes_of rows) (8 * (s / 8)) (8 * (n / 8))) (8 * (n / 8)) → q ≡ over p at (part (bytes_of rows) s n) n
rows_laid p q rows at s n hs hn e =
    let start : 8 * (s / 8) ≡ s = omega arith in
    let count : 8 * (n / 8) ≡ n = omega arith in
    rw (start, count) at e

pub slice_bounds-lay-end : goal.slice_bounds-lay-end
slice_bounds-lay-end c = let reach = rw c.in-InMemory.is at c.requires in omega (arith, reach.1)

pub lay-requires : goal.lay-requires
lay-requires c =
    let given = c.in-InMemory.is in
    let reach = rw given at c.requires in
    let room : length c.args.place.now ≡ 292 = search rules in
    rw (lent_length c.args.memory.now c.in-InMemory.start c.in-InMemory.count reach.1) (omega (arith, reach.0, room))

pub lay_rows-requires : goal.lay_rows-requires
lay_rows-requires c =
    let reach = rw c.in-InPicture.is at c.requires in
    let room : length c.args.place.now ≡ 292 = search rules in
    (omega (arith, reach.2), omega (arith, reach.2, room))

pub returns-in-Nothing : goal.returns-in-Nothing
returns-in-Nothing c = let a = c.args in rw c.in-Nothing.is (nothing_laid a.place.now 32)

pub returns-in-InMemory : goal.returns-in-InMemory
returns-in-InMemory c =
    let given = c.in-InMemory.is in
    let reach = rw given at c.requires in
    rw given (part_laid c.args.memory.now c.in-InMemory.start c.in-InMemory.count reach.1 c.args.place.now _ 32 c.lay.ensures)

pub returns-in-InPicture : goal.returns-in-InPicture
returns-in-InPicture c =
    let given = c.in-InPicture.is in
    let reach = rw given at c.requires in
    let same = (rw c.unwrap-rows.ensures at c.as_array.ensures.cases).same in
    rw given (rows_laid c.args.place.now _ c.args.rows.now 32 c.in-InPicture.start c.in-InPicture.count reach.0 reach.1 (rw same at c.lay_rows.ensures))
