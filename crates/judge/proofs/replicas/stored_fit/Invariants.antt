-- What was seen so far, and what is still to be seen, are together the whole test.
use Rattle.std.proofs.Common.{◌≡◌, ◌&&◌, ◌-◌, drop}
use Rattle.state.specs.WellFormed.{pairs_fit}
use Rattle.judge.specs.Scans.{limited}
use Rattle.judge.proofs.replicas.stored_fit.Given as goal

abbrev pub invariant-loop-i : goal.invariant-loop-i
invariant-loop-i l = l.ok && pairs_fit (limited l.l) (l.m - l.i) (drop l.i l.p-items) ≡ pairs_fit (limited l.l) l.m l.p-items
