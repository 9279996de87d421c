-- Each way out has the test that led there.
use mathlib.Core.Path.{sym}
use Rattle.lit.proofs.Laws.{too_few, too_many, passes}
use Rattle.lit.proofs.late.Goals as goal

pub returns-then-sum-spots : goal.returns-then-sum-spots
returns-then-sum-spots c p q b = sym (too_few c.args.lit c.args.spots p q b c.if-sum-spots.true)

pub returns-then-spots-sum : goal.returns-then-spots-sum
returns-then-spots-sum c p q b = sym (too_many c.args.lit c.args.spots p q b c.if-spots-sum.true)

pub returns : goal.returns
returns c p q b =
    sym (passes c.args.lit c.args.spots p q b c.if-sum-spots.false c.if-spots-sum.false)
