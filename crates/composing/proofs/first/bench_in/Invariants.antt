-- What a turn begins with: the lines that are left open the script, from the number of the first of them on.
use Rattle.std.proofs.Common.{◌≡◌, ◌+◌, ◌≤◌, length}
use Rattle.script.specs.Lines.{lines}
use Rattle.composing.specs.Script.{opening}
use Rattle.composing.proofs.first.bench_in.Given as goal

abbrev pub invariant-loop-next : goal.invariant-loop-next
invariant-loop-next l =
    record {
      counted : l.line + length (lines l.lines.rest.now) ≤ length (lines l.text) + 1;
      same : opening l.line (lines l.lines.rest.now) ≡ opening 1 (lines l.text);
    }

abbrev pub decreases-loop-next : goal.decreases-loop-next
decreases-loop-next l = length (lines l.lines.rest.now)
