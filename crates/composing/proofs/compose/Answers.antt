-- The line of the bench, the survey of the lines behind it, and their file.
use Rattle.std.proofs.Common.{◌+◌, length, arith, rules}
use Rattle.script.specs.Lines.{lines}
use Rattle.composing.proofs.ComposeLaws.{survey-size, survey-wrong, survey-filed, composed-by, composed_wrong}
use Rattle.composing.proofs.PassLaws.{lines_few}
use Rattle.composing.proofs.compose.Goals as goal

pub returns-in_err-opening-clause-value : goal.returns-in_err-opening-clause-value
returns-in_err-opening-clause-value c =
    let wrong = composed_wrong c.args.text.now c.in_err-opening.field-0.0 c.args.out.now c.in_err-opening.ensures in
    search rules

pub overflow_add-opening : goal.overflow_add-opening
overflow_add-opening c = record { fits = omega (arith, c.in_ok-opening.ensures.0, lines_few c.args.text.now) }

pub survey-requires : goal.survey-requires
survey-requires c = omega (arith, c.in_ok-opening.ensures.0, lines_few c.args.text.now)

pub returns-in_err-size-clause-value : goal.returns-in_err-size-clause-value
returns-in_err-size-clause-value c =
    let o = c.in_ok-opening.opening in
    let wrong = composed-by c.args.text.now _ c.in_ok-opening.ensures.1.1 _ c.args.out.now c.args.out.now
    (survey-wrong o.n o.m (o.number + 1) (lines o.rest.now) c.in_err-size.field-0.0 c.in_err-size.ensures (length c.args.out.now) c.args.out.now) in
    search rules

pub write_script-requires-clause-size_value : goal.write_script-requires-clause-size_value
write_script-requires-clause-size_value c =
    let o = c.in_ok-opening.opening in
    let v = survey-size o.n o.m (o.number + 1) (lines o.rest.now) c.in_ok-size.size c.in_ok-size.ensures in
    (v.sized, v.short)

pub returns-clause-value : goal.returns-clause-value
returns-clause-value c =
    let o = c.in_ok-opening.opening in
    let v = survey-size o.n o.m (o.number + 1) (lines o.rest.now) c.in_ok-size.size c.in_ok-size.ensures in
    composed-by c.args.text.now _ c.in_ok-opening.ensures.1.1 c.write_script.result c.args.out.now c.write_script.new.out
    (survey-filed o.n o.m (o.number + 1) (lines o.rest.now) c.in_ok-size.size v c.write_script.result c.args.out.now c.write_script.new.out c.write_script.ensures)
