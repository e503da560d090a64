use Rattle.std.proofs.Common.{arith}
use Rattle.text.specs.LineLaws.{one-row}
use Rattle.text.specs.PagedLaws.{adds_nothing, adds_next, adds_text}
use Rattle.report.proofs.put_rows.Goals as goal

pub loop-i-init : goal.loop-i-init
loop-i-init c = adds_nothing c.args.page.now (omega arith)

pub loop-i-preserved : goal.loop-i-preserved
loop-i-preserved c = adds_text (one-row c.args.rows.now c.loop-i.i _ (omega arith)) (omega arith) (adds_next c.loop-i.invariant c.put_row_line.ensures)
