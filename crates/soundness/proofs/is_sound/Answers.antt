-- A depth above 12 is the first test that fails; else three of the others are the callees'. What a machine owns tells that its numbers are in
-- range.
use mathlib.Core.Path.{◌≡◌}
use Prim.Native.Nat.{ℕ, ◌<◌}
use mir.Val.{Fits}
use mir.Syntax.{w8, w16}
use lib.ListN.{get_or, length}
use native.Mathlib.Omega.{arith}
use borrow.Author.Rules.{rules}
use borrow.Author.Tests.{le-leb, lt-leb}
use Rattle.rules.specs.declared.Machine.{Machine}
use Rattle.rules.specs.State.{stack_size}
use Rattle.rules.specs.Typed.{TypedMachine}
use Rattle.rules.proofs.Parts.{below_of}
use Rattle.soundness.proofs.is_sound.Goals as goal

-- the two lists by their elements, and the numbers as they are
typed : (m : Machine)
    → (length m.v ≡ 16) × (length m.stack ≡ stack_size)
    → ((i : ℕ) → Fits w8 (get_or m.v i 0))
    → ((i : ℕ) → Fits w16 (get_or m.stack i 0))
    → (m.i < 65536) × (m.pc < 65536) × (m.timers.delay < 256) × (m.timers.tone < 256) × (m.lit < 65536) × (m.end < 65536)
    → TypedMachine m
typed m sized bytes words numbers = record {
  vs = sized.0;
  v = below_of m.v (λ i h. (bytes i).fits);
  i = numbers.0;
  pc = numbers.1;
  entries = sized.1;
  stack = below_of m.stack (λ i h. (words i).fits);
  delay = numbers.2;
  tone = numbers.3;
  lit = numbers.4;
  end = numbers.5;
}

pub returns-then-depth-gt-STACK : goal.returns-then-depth-gt-STACK
returns-then-depth-gt-STACK c = record {
  value = rw (lt-leb c.args.m.depth 12 (omega (arith, c.from-depth.ensures)));
  typed_machine = typed c.args.m (search rules) (search rules) (search rules) (search rules);
}

pub returns : goal.returns
returns c = record {
  value = rw (c.clear_from.ensures, c.held_sound.ensures, c.end_sound.ensures, c.from-depth.ensures, le-leb c.args.m.depth 12 (omega (arith, c.from-depth.ensures)));
  typed_machine = typed c.args.m (search rules) (search rules) (search rules) (search rules);
}
