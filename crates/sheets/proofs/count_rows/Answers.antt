-- A turn counts one row more.
use Rattle.std.proofs.Common.{arith}
use Rattle.figures.specs.HistoryLaws.{one-row, few-more}
use Rattle.sheets.proofs.count_rows.Goals as goal

pub loop-row-preserved : goal.loop-row-preserved
loop-row-preserved c =
    let (one, few) = c.of_row.ensures in
    let turn = c.loop-row.invariant in
    record {
      within = omega arith;
      counted = one-row c.args.rows.now c.loop-row.row-index c.loop-row.history c.of_row.result c.plus-history.result c.loop-row-test.true turn.counted one c.plus-history.ensures;
      few = few-more c.loop-row.row-index c.loop-row.history c.of_row.result c.plus-history.result turn.few few c.plus-history.ensures;
    }
