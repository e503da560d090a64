use Rattle.std.proofs.Common.{◌∙◌, arith}
use Rattle.verdicts.proofs.CutLaws.{missing-here, missing-next, missing-last}
use Rattle.verdicts.proofs.history.Known.misses_row.Goals as goal

pub returns-then-row-seen : goal.returns-then-row-seen
returns-then-row-seen c =
    let l = c.loop-number in
    missing-here c.args.seen.now c.args.self.now.history.rows.now l.number l.auto.number c.loop-number-test.true c.row-row.result c.row-row.ensures c.if-row-seen.true
    ∙ l.invariant

pub loop-number-preserved : goal.loop-number-preserved
loop-number-preserved c =
    let l = c.loop-number in
    missing-next c.args.seen.now c.args.self.now.history.rows.now l.number l.auto.number c.loop-number-test.true c.row-row.result c.row-row.ensures c.if-row-seen.false
    ∙ l.invariant

pub returns-else-row-seen : goal.returns-else-row-seen
returns-else-row-seen c =
    let l = c.loop-number in
    missing-last c.args.seen.now c.args.self.now.history.rows.now l.number l.auto.number c.loop-number-test.true c.row-row.result c.row-row.ensures (omega arith) c.if-row-seen.false
    ∙ l.invariant
