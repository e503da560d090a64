-- The loop: what the rest of the order gives, from the table so far, is what the whole gives.
use Rattle.std.proofs.Common.{◌≡◌, length, drop}
use Rattle.verdicts.specs.Verdict.{fresh, marked}
use Rattle.verdicts.specs.Rows.{numbers_of}
use Rattle.verdicts.proofs.history.History.known.Given as goal

abbrev pub invariant-loop-bytes : goal.invariant-loop-bytes
invariant-loop-bytes l =
    record {
      whole : fresh (length l.self.rows.now) l.seen (numbers_of (drop l.bytes-index l.bytes-items)) ≡ fresh (length l.self.rows.now) l.fn.seen (numbers_of l.bytes-items);
      marks : marked l.seen (numbers_of (drop l.bytes-index l.bytes-items)) ≡ marked l.fn.seen (numbers_of l.bytes-items);
    }
