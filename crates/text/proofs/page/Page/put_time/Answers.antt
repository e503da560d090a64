use Rattle.std.proofs.Common.{refl, arith}
use Rattle.text.specs.DigitLaws.{decimal-short}
use Rattle.text.specs.PagedLaws.{adds_next, adds_text}
use Rattle.text.proofs.page.Page.put_time.Goals as goal

pub put_decimal-requires : goal.put_decimal-requires
put_decimal-requires c = omega (arith, decimal-short 4 c.args.time.0 (omega arith))

pub returns : goal.returns
returns c = adds_text refl (omega (arith, decimal-short 4 c.args.time.0 (omega arith))) (adds_next c.put_byte.ensures c.put_decimal.ensures)
