-- The loop: what the rest of the order gives is what the whole gives.
use Rattle.std.proofs.Common.{◌≡◌, drop}
use Rattle.verdicts.specs.Verdict.{unfinished_read}
use Rattle.verdicts.specs.Rows.{rows_of, numbers_of}
use Rattle.verdicts.proofs.history.Known.names_unfinished.Given as goal

abbrev pub invariant-loop-bytes : goal.invariant-loop-bytes
invariant-loop-bytes l =
    record {
      whole : unfinished_read (rows_of l.self.history.rows.now) (numbers_of (drop l.bytes-index l.bytes-items)) ≡ unfinished_read (rows_of l.self.history.rows.now) (numbers_of l.bytes-items);
    }
