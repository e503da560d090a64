use Rattle.std.proofs.Common.{arith}
use Rattle.text.specs.LineLaws.{store-taken, short-taken}
use Rattle.text.specs.PagedLaws.{adds_next, adds_text}
use Rattle.text.proofs.replicas.put_store_lines.Goals as goal

pub put_reg_lines-requires : goal.put_reg_lines-requires
put_reg_lines-requires c =
    let bench = c.args.bench.now in
    (omega arith, (omega arith, short-taken bench.n bench.replicas c.loop-i.i _ c.loop-i-test.true bench.m c.requires.1.1))

pub loop-i-preserved : goal.loop-i-preserved
loop-i-preserved c =
    let bench = c.args.bench.now in
    adds_text (store-taken bench.n bench.replicas c.loop-i.i _ c.loop-i-test.true bench.m) (omega arith) (adds_next c.loop-i.invariant c.put_reg_lines.ensures)
