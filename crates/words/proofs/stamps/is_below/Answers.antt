-- Below 8 processes the ranks compare as the stamps do.
use Rattle.std.proofs.Common.{ap₂, ◌∙◌, nat_lt}
use Rattle.words.proofs.RankLaws.{rank-tested}
use Rattle.words.proofs.stamps.is_below.Goals as goal

pub returns-then-a-b : goal.returns-then-a-b
returns-then-a-b c = ap₂ nat_lt c.rank_of.ensures c.rank_of-then-a-b.ensures ∙ rank-tested c.args.a c.args.b c.if-a-b.true
