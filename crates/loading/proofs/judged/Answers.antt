-- An end in use is beyond the program's address.
use mathlib.Core.Path.{sym, ◌∙◌}
use native.Mathlib.Omega.{arith}
use Rattle.rules.proofs.Sound.{end_good}
use Rattle.loading.proofs.judged.Goals as goal

pub overflow_sub-end : goal.overflow_sub-end
overflow_sub-end c =
    let used = c.end_sound in
    let end = c.args.end in
    omega (arith, (end_good end (sym used.ensures ∙ c.if-not-end_sound.false)).least)
