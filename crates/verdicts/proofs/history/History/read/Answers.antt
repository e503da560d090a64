use Rattle.std.proofs.Common.{sym}
use Rattle.verdicts.specs.Rows.{rows_of}
use Rattle.verdicts.specs.Verdict.{zeros}
use Rattle.verdicts.specs.Histories.{Cut}
use Rattle.verdicts.proofs.CutLaws.{laid-formed}
use Rattle.verdicts.proofs.history.History.read.Goals as goal

pub invariant_of-result : goal.invariant_of-result
invariant_of-result c =
    let cut : Cut c.args.bytes.now c.in_ok-rows.rows.now c.in_ok-rows.order.now = rw c.in_ok-rows.ensures.ok_part at c.cut.ensures in
    record { few = cut.few; formed = laid-formed (zeros 256) (rows_of c.in_ok-rows.rows.now) (sym c.if-not-is_laid.ensures) }
