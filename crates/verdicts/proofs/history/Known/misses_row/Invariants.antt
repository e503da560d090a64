-- The loop: what the rest of the rows gives is what all give.
use Rattle.std.proofs.Common.{◌≡◌, ◌-◌, drop}
use Rattle.verdicts.specs.Verdict.{missing}
use Rattle.verdicts.specs.Rows.{rows_of}
use Rattle.verdicts.proofs.history.Known.misses_row.Given as goal

abbrev pub invariant-loop-number : goal.invariant-loop-number
invariant-loop-number l = missing l.seen l.number (rows_of (drop (l.number - 1) l.self.history.rows.now)) ≡ missing l.seen 1 (rows_of l.self.history.rows.now)
