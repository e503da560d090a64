-- The byte was found, or the text ends first.
use Rattle.std.specs.Option.{unwrap_or}
use Rattle.std.proofs.Common.{◌∙◌, ap, length}
use Rattle.script.proofs.LineLaws.{end-front, end-back}
use Rattle.script.proofs.marks.cut.Goals as goal

pub returns-clause-front : goal.returns-clause-front
returns-clause-front c = end-front c.args.byte c.args.text.now c.unwrap_or-end.result (c.unwrap_or-end.ensures ∙ ap (λ r. unwrap_or r (length c.args.text.now)) c.place_of.ensures)

pub returns-clause-back : goal.returns-clause-back
returns-clause-back c =
    end-back c.args.byte c.args.text.now c.unwrap_or-end.result (c.unwrap_or-end.ensures ∙ ap (λ r. unwrap_or r (length c.args.text.now)) c.place_of.ensures) c.min.result c.min.ensures
