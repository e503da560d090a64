-- What a turn begins with: registers 1 to i are written.
use Rattle.std.proofs.Common.{◌*◌}
use Rattle.text.specs.Lines.{reg_texts}
use Rattle.text.specs.Paged.{Adds}
use Rattle.text.proofs.registers.put_reg_lines.Given as goal

abbrev pub invariant-loop-i : goal.invariant-loop-i
invariant-loop-i l = Adds (reg_texts l.replica.pairs l.p 1 l.i) (49 * l.i) l.fn.page l.page
