use Rattle.std.proofs.Common.{refl, arith}
use Rattle.text.specs.PagedLaws.{adds_next, adds_text}
use Rattle.text.specs.Printed.{proc_line}
use Rattle.text.proofs.lines.put_proc_line.Goals as goal

pub returns : goal.returns
unfolding proc_line
returns c = adds_text refl (omega arith) (adds_next c.put_str.ensures (adds_next c.put_number.ensures (adds_next c.put_time.ensures (adds_next c.put_state.ensures c.put_byte.ensures))))
