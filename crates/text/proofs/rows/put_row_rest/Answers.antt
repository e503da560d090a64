use Rattle.std.proofs.Common.{refl, arith}
use Rattle.text.specs.WrittenLaws.{and_next, as_text}
use Rattle.text.proofs.rows.put_row_rest.Goals as goal

pub returns : goal.returns
returns c = as_text refl (omega arith) (and_next c.put_small-a.ensures (and_next c.put_time-b.ensures (and_next c.put_answered-c.ensures (and_next c.put_ending-d.ensures c.put_byte.ensures))))
