-- Entry k is the number at 24 + 2 k.
use Prim.Native.Nat.{◌+◌, ◌*◌}
use Rattle.std.proofs.Common.{rules}
use Rattle.std.proofs.lemmas.List.FromFn.{fill_by_all}
use Rattle.rules.specs.Record.{word_at}
use Rattle.image.proofs.stack_in.Goals as goal

pub returns : goal.returns
returns c = fill_by_all (λ k. word_at c.args.image.now (24 + 2 * k)) c.from_fn.result 12 0 (search rules) (λ k h. search rules)
