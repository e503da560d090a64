use Rattle.std.proofs.Common.{ap, length, length-append, take, get_or, arith}
use Rattle.text.specs.PagedLaws.{adds_next, adds_text}
use Rattle.writing.specs.Bytes.{zero_event, event_bytes, events_bytes}
use Rattle.writing.proofs.EventsLaws.{one-event, front-most}
use Rattle.writing.proofs.put_events.Goals as goal

pub put_event-requires : goal.put_event-requires
put_event-requires c =
    omega (arith, c.requires, c.loop-event.invariant.wrote.ends, c.loop-event.invariant.long, front-most c.args.events.now c.loop-event.event-index zero_event c.loop-event-test.true)

pub loop-event-preserved : goal.loop-event-preserved
loop-event-preserved c =
    let events = c.args.events.now in
    let i = c.loop-event.event-index in
    let text = one-event events i zero_event c.loop-event-test.true in
    adds_text text (omega (arith, ap length text, length-append (events_bytes (take i events)) (event_bytes (get_or events i zero_event)))) (adds_next c.loop-event.invariant c.put_event.ensures)
