use Rattle.std.proofs.Common.{refl, arith}
use Rattle.text.specs.PagedLaws.{adds_next, adds_text}
use Rattle.sheet_text.proofs.page.put_head.Goals as goal

pub returns : goal.returns
returns c = adds_text refl (omega arith) (adds_next c.put_schedules_line.ensures c.put_refused_lines.ensures)
