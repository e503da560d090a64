use Rattle.std.proofs.Common.{refl, arith}
use Rattle.text.specs.PagedLaws.{adds_next, adds_text}
use Rattle.inflight.specs.Flight.{message_line}
use Rattle.inflight.proofs.lines.put_message_line.Goals as goal

pub returns : goal.returns
unfolding message_line
returns c = adds_text refl (omega arith) (adds_next c.put_ends.ensures (adds_next c.put_number.ensures (adds_next c.put_number-2.ensures (adds_next c.put_body.ensures c.put_byte.ensures))))
