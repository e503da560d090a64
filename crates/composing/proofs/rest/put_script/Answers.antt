use Rattle.script.specs.Lines.{lines}
use Rattle.composing.proofs.PassLaws.{puts_next}
use Rattle.composing.proofs.rest.put_script.Goals as goal

pub loop-next-preserved : goal.loop-next-preserved
loop-next-preserved c =
    puts_next (lines c.args.text.now) c.args.page.now c.loop-next.page (lines c.loop-next.next-iterator.rest.now) c.loop-next.invariant c.in-Some.next.now _ c.in-Some.ensures.steps.0
    c.put_line.new.page c.put_line.ensures
