-- What a turn begins with: the lines of processes 1 to i are written.
use Rattle.std.proofs.Common.{◌*◌}
use Rattle.text.specs.Lines.{proc_texts}
use Rattle.text.specs.Paged.{Adds}
use Rattle.text.proofs.replicas.put_proc_lines.Given as goal

abbrev pub invariant-loop-i : goal.invariant-loop-i
invariant-loop-i l = Adds (proc_texts l.bench.replicas 1 l.i) (22 * l.i) l.fn.page l.page
