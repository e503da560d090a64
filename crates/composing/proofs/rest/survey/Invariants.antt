-- What a turn begins with: the survey of the lines that are left, behind a file of so many bytes, is that of all.
use Rattle.std.proofs.Common.{◌≡◌, ◌+◌, ◌≤◌, length}
use Rattle.script.specs.Lines.{lines}
use Rattle.composing.specs.Passes.{surveyed}
use Rattle.composing.specs.Script.{following}
use Rattle.composing.proofs.rest.survey.Given as goal

abbrev pub invariant-loop-next : goal.invariant-loop-next
invariant-loop-next l =
    record {
      counted : l.line + length (lines l.next-iterator.rest.now) ≤ l.number + length (lines l.text);
      short : l.size ≤ 65536;
      same : surveyed l.size (following l.line l.size (lines l.next-iterator.rest.now)) ≡ surveyed 7 (following l.number 7 (lines l.text));
    }
