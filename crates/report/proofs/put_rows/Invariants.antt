-- What a turn begins with: the lines of the first i rows are written.
use Rattle.std.proofs.Common.{◌*◌, take}
use Rattle.text.specs.Paged.{Adds}
use Rattle.text.specs.Printed.{row_lines}
use Rattle.report.proofs.put_rows.Given as goal

abbrev pub invariant-loop-i : goal.invariant-loop-i
invariant-loop-i l = Adds (row_lines 1 (take l.i l.rows)) (68 * l.i) l.fn.page l.page
