-- The line without its comment.
use Rattle.std.proofs.Common.{◌∙◌, ap, List, ℕ}
use Rattle.script.specs.Lines.{words}
use Rattle.script.specs.Meaning.{meaning, line_of}
use Rattle.script.proofs.meaning.line_of.Goals as goal

pub returns : goal.returns
unfolding line_of
returns c = c.plain_line.ensures ∙ ap (λ (l : List ℕ). meaning (words l)) c.cut.ensures.front
