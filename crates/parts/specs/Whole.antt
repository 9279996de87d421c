-- The machine that a core, variables and a stack make, and the core of a machine.
use Rattle.std.specs.Prelude.{List, ℕ}
use Rattle.rules.specs.declared.Machine.{Machine}
use Rattle.parts.specs.declared.Core.{Core}

abbrev pub whole : Core → List ℕ → List ℕ → Machine
whole c v stack =
    record { v = v; i = c.i; pc = c.pc; stack = stack; depth = c.depth; timers = c.timers; wait = c.wait; edition = c.edition; lit = c.lit; end = c.end }

abbrev pub core_of : Machine → Core
core_of m =
    record { i = m.i; pc = m.pc; depth = m.depth; timers = m.timers; wait = m.wait; edition = m.edition; lit = m.lit; end = m.end }
