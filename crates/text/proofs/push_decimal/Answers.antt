-- What std writes of a byte is its digits, each a glyph.
use Rattle.std.proofs.Common.{rules}
use Rattle.text.proofs.Decimal.{decimal_of_byte}
use Rattle.text.proofs.push_decimal.Goals as goal

pub returns-clause-bytes : goal.returns-clause-bytes
returns-clause-bytes g c = search (rules, decimal_of_byte)
