use Rattle.std.proofs.Common.{arith, rules, length-take}
use Rattle.text.specs.WholeLaws.{whole_page}
use Rattle.report.proofs.put_text.Goals as goal

pub returns : goal.returns
returns c messages there =
    let b = c.args.bench.now in
    let rows = c.args.rows.now in
    let w = (whole_page b messages rows _ c.args.order.now c.put_run_line.ensures c.put_rows.ensures c.put_tail.ensures there (omega (arith, length-take b.rows rows))).wrote in
    search rules
