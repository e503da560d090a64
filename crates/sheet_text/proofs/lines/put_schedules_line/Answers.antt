use Rattle.std.proofs.Common.{refl, arith}
use Rattle.text.specs.PagedLaws.{adds_next, adds_text}
use Rattle.sheet_text.specs.SheetText.{schedules_line}
use Rattle.sheet_text.proofs.lines.put_schedules_line.Goals as goal

pub returns : goal.returns
unfolding schedules_line
returns c = adds_text refl (omega arith) (adds_next c.put_named.ensures c.put_byte.ensures)
