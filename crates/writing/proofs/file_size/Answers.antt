use Rattle.std.proofs.Common.{ap, length, length-append, take, get_or, arith}
use Rattle.std.proofs.lemmas.List.{length-take-le}
use Rattle.writing.specs.Bytes.{zero_event, event_bytes, events_bytes}
use Rattle.writing.proofs.EventsLaws.{one-event, bytes_most, event-most}
use Rattle.writing.proofs.file_size.Goals as goal

pub overflow_add-size : goal.overflow_add-size
overflow_add-size c =
    let i = c.loop-event.event-index in
    -- 16 bytes an event in the list, at most 11 in the file
    record {
      fits =
          omega (arith, c.loop-event.invariant, c.size_of-size.ensures, bytes_most (take i c.args.events.now), length-take-le i c.args.events.now (omega arith), event-most (get_or c.args.events.now i zero_event));
    }

pub loop-event-preserved : goal.loop-event-preserved
loop-event-preserved c =
    let events = c.args.events.now in
    let i = c.loop-event.event-index in
    omega (arith, c.loop-event.invariant, c.size_of-size.ensures, length-append (events_bytes (take i events)) (event_bytes (get_or events i zero_event)), ap length (one-event events i zero_event c.loop-event-test.true))
