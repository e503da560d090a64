use Rattle.judge.specs.FreshLaws.{fresh-derived}
use Rattle.judge.proofs.replicas.is_fresh.Goals as goal

pub returns : goal.returns
returns c = rw c.eq.ensures (fresh-derived c.args.r c.default.result c.default.ensures)
