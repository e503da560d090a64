-- What is entered is what the schedule adds.
use Rattle.std.proofs.Common.{ap, ◌∙◌}
use Rattle.figures.specs.Figures.{added_or28}
use Rattle.sheets.specs.Sheet.{added}
use Rattle.sheets.proofs.EntryLaws.{entry-below}
use Rattle.sheets.proofs.add.Goals as goal

pub enter-requires : goal.enter-requires
enter-requires c = entry-below c.args.bytes.now c.count_file.result c.count_file.ensures

pub returns : goal.returns
unfolding added
returns c = c.enter.ensures ∙ ap (added_or28 c.args.sheet) c.count_file.ensures
