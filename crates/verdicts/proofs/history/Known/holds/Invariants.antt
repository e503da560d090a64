-- The loop: what the rest of the order gives is what the whole gives.
use Rattle.std.proofs.Common.{◌≡◌, length, drop}
use Rattle.verdicts.specs.Verdict.{reading, zeros}
use Rattle.verdicts.specs.Rows.{rows_of, numbers_of}
use Rattle.verdicts.proofs.history.Known.holds.Given as goal

abbrev pub invariant-loop-bytes : goal.invariant-loop-bytes
invariant-loop-bytes l =
    record {
      places : length l.held ≡ 256;
      whole : reading (rows_of l.self.history.rows.now) l.held (numbers_of (drop l.bytes-index l.bytes-items)) ≡ reading (rows_of l.self.history.rows.now) (zeros 256) (numbers_of l.bytes-items);
    }
