use Rattle.std.proofs.Common.{◌∙◌, rules}
use Rattle.judge.specs.Scans.{limited}
use Rattle.judge.specs.ScanLaws.{pairs-step}
use Rattle.judge.proofs.replicas.stored_fit.Goals as goal

pub loop-i-preserved : goal.loop-i-preserved
loop-i-preserved c = rw c.stored_at-ok.ensures (pairs-step (limited c.args.l) c.args.m c.loop-i.i _ c.args.pairs c.loop-i.ok (search rules) ∙ c.loop-i.invariant)
