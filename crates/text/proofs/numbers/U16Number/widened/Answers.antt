use Rattle.std.proofs.Common.{arith}
use Rattle.text.specs.DigitLaws.{decimal-short}
use Rattle.text.proofs.numbers.U16Number.widened.Goals as goal

pub returns-clause-short : goal.returns-clause-short
returns-clause-short c = omega (arith, decimal-short 4 c.args.self (omega arith))
