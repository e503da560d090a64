-- What a turn begins with: the copies that are still to be laid over the part, the next of which is m.
use Rattle.std.proofs.Common.{◌≡◌, ◌+◌, ◌-◌, ◌<◌, length}
use Rattle.tables.specs.Tables.{copies, laid_at}
use Rattle.tables.proofs.post.Given as goal

abbrev pub invariant-loop-place : goal.invariant-loop-place
invariant-loop-place l =
    record {
      whole : length l.place-items ≡ l.count;
      numbers : l.m.number + (l.count - l.place-index) < 4294967296;
      processes : l.m.to.0 + (l.count - l.place-index) < 256;
      same : laid_at l.place-index (copies l.m (l.count - l.place-index)) l.place-items ≡ copies l.fn.first l.count;
    }
