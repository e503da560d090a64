use Rattle.std.proofs.Common.{arith}
use Rattle.text.specs.PagedLaws.{adds_next, adds_text}
use Rattle.text.specs.LineLaws.{row_is}
use Rattle.text.proofs.rows.put_row_line.Goals as goal

pub returns : goal.returns
returns c = adds_text (row_is c.args.number c.args.row.now) (omega arith) (adds_next c.put_row_head.ensures c.put_row_rest.ensures)
