use Rattle.std.proofs.Common.{refl, arith}
use Rattle.text.specs.PagedLaws.{adds_next, adds_text}
use Rattle.sheet_text.proofs.page.put_rest.Goals as goal

pub returns : goal.returns
returns c = adds_text refl (omega arith) (adds_next c.put_operations_line.ensures (adds_next c.put_operations_line-2.ensures (adds_next c.put_traffic_line.ensures c.put_wait_line.ensures)))
