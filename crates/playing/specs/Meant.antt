-- What a move of the code is in the rules.
use Rattle.rules.specs.declared.Action.TheVariants.{Step, Tick}
use Rattle.rules.specs.Run.{Move, a_step, a_tick, a_back, a_forward}
use Rattle.playing.specs.declared.Move.{Move as Made}
use Rattle.playing.specs.declared.Move.TheVariants.{Take, Back, Forward}

abbrev pub meant : Made → Move
meant (Take (Step keys random)) = a_step keys random
meant (Take Tick) = a_tick
meant Back = a_back
meant Forward = a_forward
