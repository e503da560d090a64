use Rattle.std.proofs.Common.{refl, arith}
use Rattle.text.specs.PagedLaws.{adds_next, adds_text}
use Rattle.sheet_text.specs.SheetText.{operations_line}
use Rattle.sheet_text.proofs.lines.put_operations_line.Goals as goal

pub returns : goal.returns
unfolding operations_line
returns c = adds_text refl (omega arith) (adds_next c.put_str.ensures (adds_next c.put_number.ensures (adds_next c.put_number-2.ensures c.put_byte.ensures)))
