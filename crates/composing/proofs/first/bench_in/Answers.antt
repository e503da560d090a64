use Rattle.std.proofs.Common.{◌≡◌, [], sym, ap, ◌∙◌, length, arith, rules, Ok, Err}
use Rattle.script.specs.declared.Line.TheVariants.{Does}
use Rattle.script.specs.Lines.{lines}
use Rattle.composing.specs.Script.{opening, script_of}
use Rattle.composing.proofs.PassLaws.{lines_few, open_by, open_bench}
use Rattle.composing.proofs.first.bench_in.Goals as goal

pub overflow_add-line : goal.overflow_add-line
overflow_add-line c = record { fits = omega (arith, c.loop-next.invariant.counted, ap length c.in-Some.ensures.steps.0, lines_few c.args.text.now) }

pub ranged-requires : goal.ranged-requires
unfolding script_of
ranged-requires c =
    let bench = open_bench (lines c.loop-next.lines.rest.now) c.in-Some.next.now _ c.in-Some.ensures.steps.0 c.loop-next.line c.in-Ok-Bench.n c.in-Ok-Bench.m (sym (ap Ok c.in-Ok-Bench.field-0-is) ∙ c.in-Ok-Bench.ensures) in
    (omega (arith, c.loop-next.invariant.counted, ap length c.in-Some.ensures.steps.0), sym c.loop-next.invariant.same ∙ bench)

pub returns-in-Ok-Does : goal.returns-in-Ok-Does
unfolding script_of
returns-in-Ok-Does c = sym c.loop-next.invariant.same ∙ open_by (lines c.loop-next.lines.rest.now) c.in-Some.next.now _ c.in-Some.ensures.steps.0 c.loop-next.line (Ok (Does c.in-Ok-Does.field-0-0)) (sym (ap Ok c.in-Ok-Does.field-0-is) ∙ c.in-Ok-Does.ensures)

pub returns-in-Err : goal.returns-in-Err
unfolding script_of
returns-in-Err c = sym c.loop-next.invariant.same ∙ open_by (lines c.loop-next.lines.rest.now) c.in-Some.next.now _ c.in-Some.ensures.steps.0 c.loop-next.line (Err c.in-Err.fault) c.in-Err.ensures

pub returns : goal.returns
unfolding script_of
returns c =
    let none : lines c.loop-next.lines.rest.now ≡ [] = search rules in
    sym c.loop-next.invariant.same ∙ ap (opening c.loop-next.line) none
