-- The loop: what the rest of the rows gives is what all give.
use Rattle.std.proofs.Common.{◌≡◌, length, drop}
use Rattle.verdicts.specs.Verdict.{laid, zeros}
use Rattle.verdicts.specs.Rows.{rows_of}
use Rattle.verdicts.proofs.layout.is_laid.Given as goal

abbrev pub invariant-loop-bytes : goal.invariant-loop-bytes
invariant-loop-bytes l =
    record {
      places : length l.ended ≡ 256;
      whole : laid l.ended (rows_of (drop l.bytes-index l.rows)) ≡ laid (zeros 256) (rows_of l.rows);
    }
