use Rattle.std.proofs.Common.{refl, arith}
use Rattle.text.specs.PagedLaws.{adds_next, adds_text}
use Rattle.showing.proofs.lines.put_two.Goals as goal

pub returns : goal.returns
returns c = adds_text refl (omega arith) (adds_next c.put_str.ensures (adds_next c.put_number.ensures (adds_next c.put_number-2.ensures c.put_byte.ensures)))
