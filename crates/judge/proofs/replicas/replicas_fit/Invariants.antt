-- What was seen so far, and what is still to be seen, are together the whole test.
use Rattle.std.proofs.Common.{◌≡◌, ◌&&◌, ◌+◌, drop}
use Rattle.judge.specs.Scans.{limited, each_judged}
use Rattle.judge.proofs.replicas.replicas_fit.Given as goal

abbrev pub invariant-loop-i : goal.invariant-loop-i
invariant-loop-i l = l.ok && each_judged (limited l.l) l.waiting (l.i + 1) (drop l.i l.r-items) ≡ each_judged (limited l.l) l.waiting 1 l.r-items
