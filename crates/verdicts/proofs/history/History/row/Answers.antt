use Rattle.verdicts.proofs.CutLaws.{decoded}
use Rattle.verdicts.proofs.history.History.row.Goals as goal

pub unwrap-requires : goal.unwrap-requires
unwrap-requires c = decoded c.args.self.now.rows.now c.args.number c.requires c.args.self.now.formed c.try_from.result c.try_from.ensures
