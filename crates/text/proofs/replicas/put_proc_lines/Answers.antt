use Rattle.std.proofs.Common.{arith}
use Rattle.text.specs.LineLaws.{proc-taken}
use Rattle.text.specs.PagedLaws.{adds_next, adds_text}
use Rattle.text.proofs.replicas.put_proc_lines.Goals as goal

pub loop-i-preserved : goal.loop-i-preserved
loop-i-preserved c =
    let replicas = c.args.bench.now.replicas in
    adds_text (proc-taken c.args.bench.now.n replicas c.loop-i.i _ c.loop-i-test.true) (omega arith) (adds_next c.loop-i.invariant c.put_proc_line.ensures)
