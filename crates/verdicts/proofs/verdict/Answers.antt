use Rattle.std.proofs.Common.{◌∙◌, ap}
use Rattle.verdicts.specs.Faults.{number}
use Rattle.verdicts.specs.Verdict.{zeros}
use Rattle.verdicts.proofs.FaultLaws.{handed, no-history, stale, known-judged}
use Rattle.verdicts.proofs.verdict.Goals as goal

pub returns-in_err-history : goal.returns-in_err-history
returns-in_err-history c =
    let e = c.in_err-history.ensures in
    handed c.from_residual.result c.in_err-history.field-0.0 c.from_residual.ensures.1 ∙ ap number e.0 ∙ no-history c.args.bytes.now e.1

pub returns-in_err-known : goal.returns-in_err-known
unfolding zeros
returns-in_err-known c =
    let e = c.in_err-known.ensures in
    handed c.from_residual-in_err-known.result c.in_err-known.field-0.0 c.from_residual-in_err-known.ensures.1 ∙ ap number e.0
    ∙ stale c.args.bytes.now c.in_ok-history.history c.in_ok-history.ensures e.1

pub returns : goal.returns
unfolding zeros
returns c =
    c.judge.ensures ∙ known-judged c.args.bytes.now c.in_ok-history.history c.in_ok-history.ensures c.in_ok-known.known c.known.new.seen c.in_ok-known.ensures
