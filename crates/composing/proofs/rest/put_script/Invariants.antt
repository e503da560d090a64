-- What a turn begins with: the events that are written and those of the lines that are left are all.
use Rattle.script.specs.Lines.{lines}
use Rattle.composing.proofs.PassLaws.{Puts}
use Rattle.composing.proofs.rest.put_script.Given as goal

abbrev pub invariant-loop-next : goal.invariant-loop-next
invariant-loop-next l = Puts (lines l.text) l.fn.page l.page (lines l.next-iterator.rest.now)
