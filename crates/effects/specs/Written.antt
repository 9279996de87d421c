-- The machine after an effect: all but a PC that is written itself go on behind the instruction.
use Rattle.rules.specs.declared.Machine.{Machine}
use Rattle.rules.specs.State.{with_reg, with_pc, with_i, with_timers}
use Rattle.rules.specs.Registers.{onward}
use Rattle.effects.specs.declared.Effect.{Effect}
use Rattle.effects.specs.declared.Effect.TheVariants.{Next, Result, Flagged, Index, Clock}

abbrev pub written : Effect → Machine → Machine
written (Next pc) m = with_pc pc m
written (Result x b) m = onward (with_reg x b m)
written (Flagged x b f) m = onward (with_reg 0xF f (with_reg x b m))
written (Index i) m = onward (with_i i m)
written (Clock delay tone) m = onward (with_timers (record { delay = delay; tone = tone }) m)
