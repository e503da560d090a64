-- What a turn begins with: the events so far are written.
use Rattle.std.proofs.Common.{length, take}
use Rattle.text.specs.Paged.{Adds}
use Rattle.writing.specs.Bytes.{events_bytes}
use Rattle.writing.proofs.put_events.Given as goal

abbrev pub invariant-loop-event : goal.invariant-loop-event
invariant-loop-event l = Adds (events_bytes (take l.event-index l.events)) (length (events_bytes (take l.event-index l.events))) l.fn.page l.page
