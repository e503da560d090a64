-- What a turn begins with: the bytes of the first rows are written.
use Rattle.std.proofs.Common.{◌*◌, take}
use Rattle.text.specs.Paged.{Adds}
use Rattle.histories.specs.OwnFile.{rows_text}
use Rattle.histories.proofs.put_rows.Given as goal

abbrev pub invariant-loop-row : goal.invariant-loop-row
invariant-loop-row l = Adds (rows_text (take l.row-index l.rows)) (12 * l.row-index) l.fn.page l.page
