use Rattle.std.proofs.Common.{refl, arith}
use Rattle.text.specs.PagedLaws.{adds_next, adds_text}
use Rattle.text.proofs.tail.put_tail.Goals as goal

pub returns : goal.returns
returns c = adds_text refl (omega arith) (adds_next c.put_order_line.ensures (adds_next c.put_proc_lines.ensures (adds_next c.put_store_lines.ensures c.put_count_line.ensures)))
