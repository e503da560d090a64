use Rattle.std.proofs.Common.{refl, arith}
use Rattle.text.specs.DigitLaws.{decimal-most}
use Rattle.text.specs.PagedLaws.{adds_next, adds_text}
use Rattle.sheet_text.proofs.lines.put_mean.Goals as goal

pub put_decimal-requires : goal.put_decimal-requires
put_decimal-requires c = omega (arith, decimal-most c.args.w.count)

pub returns : goal.returns
returns c = adds_text refl (omega (arith, decimal-most c.args.w.count)) (adds_next c.put_number.ensures (adds_next c.put_byte.ensures c.put_decimal.ensures))
