use Rattle.std.proofs.Common.{refl, arith}
use Rattle.text.specs.PagedLaws.{adds_next, adds_text}
use Rattle.inflight.proofs.lines.put_register.Goals as goal

pub returns : goal.returns
returns c = adds_text refl (omega arith) (adds_next c.put_str.ensures c.put_number.ensures)
