-- An action as a call.
use Rattle.rules.specs.declared.Action.{Action}
use Rattle.rules.specs.declared.Action.TheVariants.{Step, Tick}
use Rattle.rules.specs.World.{World, Answer}
use Rattle.rules.specs.Call.{step, tick}

abbrev pub taken : Action → World → Answer
taken (Step keys random) w = step keys random w
taken Tick w = tick w
