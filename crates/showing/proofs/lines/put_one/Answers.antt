use Rattle.std.proofs.Common.{refl, arith}
use Rattle.text.specs.PagedLaws.{adds_next, adds_text}
use Rattle.showing.proofs.lines.put_one.Goals as goal

pub returns : goal.returns
returns g c = adds_text refl (omega arith) (adds_next c.put_str.ensures (adds_next c.put_number.ensures c.put_byte.ensures))
