use Rattle.std.proofs.Common.{arith}
use Rattle.text.specs.DigitLaws.{decimal-most}
use Rattle.text.proofs.numbers.U64Number.widened.Goals as goal

pub returns-clause-short : goal.returns-clause-short
returns-clause-short c = omega (arith, decimal-most c.args.self)
