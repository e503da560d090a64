-- What a turn begins with: the lines of the numbers 1 to i are written.
use Rattle.std.proofs.Common.{◌*◌}
use Rattle.text.specs.Paged.{Adds}
use Rattle.sheet_text.specs.SheetText.{refused_lines}
use Rattle.sheet_text.proofs.lines.put_refused_lines.Given as goal

abbrev pub invariant-loop-i : goal.invariant-loop-i
invariant-loop-i l = Adds (refused_lines l.files 1 l.i) (35 * l.i) l.fn.page l.page
