-- What a turn begins with: what is seen of the rows that are left, after what was seen.
use Rattle.std.proofs.Common.{◌≡◌, ◌+◌, drop, replicate}
use Rattle.judge.specs.declared.Waiting.TheVariants.{Nothing}
use Rattle.judge.specs.Scans.{limited, scanned}
use Rattle.judge.proofs.rows.waiting_of.Given as goal

abbrev pub invariant-loop-i : goal.invariant-loop-i
invariant-loop-i l = scanned (limited l.l) l.waiting (l.i + 1) (drop l.i l.rows) ≡ scanned (limited l.l) (replicate 7 Nothing) 1 l.rows
