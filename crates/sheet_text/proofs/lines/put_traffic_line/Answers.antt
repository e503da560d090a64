use Rattle.std.proofs.Common.{refl, arith}
use Rattle.text.specs.PagedLaws.{adds_next, adds_text}
use Rattle.sheet_text.specs.SheetText.{traffic_line}
use Rattle.sheet_text.proofs.lines.put_traffic_line.Goals as goal

pub returns : goal.returns
unfolding traffic_line
returns c = adds_text refl (omega arith) (adds_next c.put_named.ensures (adds_next c.put_named-2.ensures (adds_next c.put_named-3.ensures (adds_next c.put_named-4.ensures c.put_byte.ensures))))
