use Rattle.std.proofs.Common.{arith}
use Rattle.tables.specs.Tables.{empty_message}
use Rattle.tables.proofs.Laying.{moved_down}
use Rattle.tables.proofs.take_off.Goals as goal

pub returns : goal.returns
returns c = rw (c.copy_within.ensures.after, c.default.ensures) (moved_down c.args.at c.args.n empty_message c.args.t.now (omega arith) (omega arith))
