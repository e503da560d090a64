-- What a turn begins with: the events so far are counted.
use Rattle.std.proofs.Common.{◌≡◌, ◌+◌, length, take}
use Rattle.writing.specs.Bytes.{events_bytes}
use Rattle.writing.proofs.file_size.Given as goal

abbrev pub invariant-loop-event : goal.invariant-loop-event
invariant-loop-event l = l.size ≡ 7 + length (events_bytes (take l.event-index l.events))
