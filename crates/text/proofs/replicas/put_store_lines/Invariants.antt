-- What a turn begins with: the registers of processes 1 to i are written.
use Rattle.std.proofs.Common.{◌*◌}
use Rattle.text.specs.Lines.{store_texts}
use Rattle.text.specs.Paged.{Adds}
use Rattle.text.proofs.replicas.put_store_lines.Given as goal

abbrev pub invariant-loop-i : goal.invariant-loop-i
invariant-loop-i l = Adds (store_texts l.bench.replicas l.bench.m 1 l.i) (784 * l.i) l.fn.page l.page
