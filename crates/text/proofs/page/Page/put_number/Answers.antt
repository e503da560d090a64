use Rattle.std.proofs.Common.{ap, arith}
use Rattle.text.specs.PagedLaws.{adds_next, adds_text}
use Rattle.text.specs.Printed.{number}
use Rattle.text.proofs.page.Page.put_number.Goals as goal

pub returns : goal.returns
returns g c = adds_text (ap number c.widened-widened.ensures.value) (omega (arith, c.widened-widened.ensures.short)) (adds_next c.put_byte.ensures c.put_decimal.ensures)
