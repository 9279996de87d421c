-- A record that is not damaged, whoever wrote it, gives back a board in range.
use mathlib.Core.List.{List}
use Prim.Native.Nat.{ℕ, ◌+◌, ◌-◌, ◌≤◌, ◌<◌}
use native.Mathlib.Omega.{arith}
use lib.ListN.{length, set, take, length-append, length-take, length-set, length-replicate}
use lib.Seq.{drop_at, length-take-le}
use Rattle.rules.specs.declared.Machine.{Machine}
use Rattle.rules.specs.declared.Change.{Change}
use Rattle.rules.specs.declared.Change.TheVariants.{Nothing, InMemory, InPicture}
use Rattle.rules.specs.Memory.{part}
use Rattle.rules.specs.Record.{byte_at, word_at, stack_at, change_at, machine_at, memory_at, picture_at}
use Rattle.rules.proofs.Good.{Bytes, GoodCalls, GoodMachine}
use Rattle.rules.proofs.Parts.{zeroes, part_length, below_get, below_set, below_append, below_take, below_drop, below_zeros, bytes_over}
use Rattle.rules.proofs.Undo.{Fits, Usable}

module _ (r : List ℕ) (place : Bytes 292 r) {end : ℕ} (u : Usable end r) where
  byte : (k : ℕ) → byte_at r k < 256
  byte k = below_get (omega arith) place.below k

  two_bytes : (k : ℕ) → word_at r k < 65536
  two_bytes k = omega (arith, byte k, byte (k + 1))

  piece : (s n : ℕ) → s + n ≤ 292 → Bytes n (part r s n)
  piece s n h = record { size = part_length r s n (omega (arith, place.size)); below = below_take (below_drop place.below s) n }

  calls_good : (stack : List ℕ) (depth : ℕ) → GoodCalls stack depth → GoodCalls (stack_at r stack) (byte_at r 22)
  calls_good stack depth g =
      let d = byte_at r 22 in
      let changed = set stack (d - 1) (word_at r 23) in
      let fits : d ≤ length changed = rw length-set (omega (arith, u.shallow, g.size)) in
      record {
        size = simp (length-append, length-take, length-set, length-replicate) (omega (arith, u.shallow, g.size));
        below = below_append (below_take (below_set g.below (d - 1) (word_at r 23) (two_bytes 23)) d) (below_zeros (12 - d) (omega arith));
        most = u.shallow;
        unused = drop_at (take d changed) (zeroes (12 - d)) d (length-take-le d changed fits);
      }

  pub machine_good : (m : Machine) → GoodMachine m → GoodMachine (machine_at r m)
  machine_good m g =
      record {
        v = piece 2 16 (omega arith);
        i = two_bytes 18;
        pc = two_bytes 20;
        calls = calls_good m.stack m.depth g.calls;
        timers = record { delay = byte 25; tone = byte 26 };
        wait = u.held;
        lit = g.lit;
        end = g.end;
      }

  memory_from : (c : Change) (l : List ℕ) → Fits end c → end ≤ 4096 → Bytes 4096 l → Bytes 4096 (memory_at c r l)
  memory_from Nothing l f most g = g
  memory_from (InMemory s n) l f most g = bytes_over g (piece 32 n (omega (arith, f))) s (omega (arith, f))
  memory_from (InPicture s n) l f most g = g

  picture_from : (c : Change) (l : List ℕ) → Fits end c → Bytes 256 l → Bytes 256 (picture_at c r l)
  picture_from Nothing l f g = g
  picture_from (InMemory s n) l f g = g
  picture_from (InPicture s n) l f g = bytes_over g (piece 32 n (omega (arith, f))) s f.2

  pub memory_good : (l : List ℕ) → end ≤ 4096 → Bytes 4096 l → Bytes 4096 (memory_at (change_at r) r l)
  memory_good l = memory_from (change_at r) l u.fits

  pub picture_good : (l : List ℕ) → Bytes 256 l → Bytes 256 (picture_at (change_at r) r l)
  picture_good l = picture_from (change_at r) l u.fits
