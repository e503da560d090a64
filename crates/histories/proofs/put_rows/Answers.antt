use Rattle.std.proofs.Common.{arith, ap}
use Rattle.std.proofs.lemmas.List.{take_all}
use Rattle.text.specs.PagedLaws.{adds_next, adds_text, adds_nothing}
use Rattle.histories.specs.OwnFile.{rows_text}
use Rattle.histories.specs.RecordedLaws.{one-row}
use Rattle.histories.proofs.put_rows.Goals as goal

pub loop-row-init : goal.loop-row-init
loop-row-init c = adds_nothing c.args.page.now (omega arith)

pub put_row-requires : goal.put_row-requires
put_row-requires c = let h = c.loop-row.invariant in omega (arith, h.long, h.wrote.ends, h.wrote.short)

pub loop-row-preserved : goal.loop-row-preserved
loop-row-preserved c = adds_text (one-row c.args.rows.now c.loop-row.row-index _ c.loop-row-test.true) (omega arith) (adds_next c.loop-row.invariant c.put_row.ensures)

pub returns : goal.returns
returns c =
    let l = c.loop-row in
    let all = ap rows_text (take_all l.row-index c.args.rows.now c.loop-row-test.false) in
    adds_text all (omega arith) l.invariant
