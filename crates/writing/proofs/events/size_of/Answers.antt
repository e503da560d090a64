use Rattle.std.proofs.Common.{ap, ◌∙◌}
use Rattle.format.specs.Kinds.{size}
use Rattle.writing.proofs.EventLaws.{kind-size}
use Rattle.writing.proofs.events.size_of.Goals as goal

pub returns : goal.returns
returns c = c.size.ensures ∙ ap size c.from.ensures ∙ kind-size c.args.event
