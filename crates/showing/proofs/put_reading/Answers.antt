use Rattle.std.proofs.Common.{◌≡◌, refl, sym, ◌∙◌, arith}
use Rattle.format.specs.Format.{event_at}
use Rattle.format.specs.Parse.{Next, End}
use Rattle.showing.proofs.ShowLaws.{starts, room_for, nearer, goes_on, stops, ends}
use Rattle.showing.proofs.put_reading.Goals as goal

pub loop-event-init : goal.loop-event-init
loop-event-init c =
    record { long = refl; shows = starts c.args.bytes.now c.args.page.now c.requires.in_bounds.0 c.requires.in_bounds.1 c.requires.bytes_in_bounds.0 }

pub put_event_line-requires : goal.put_event_line-requires
put_event_line-requires c =
    let found : event_at c.args.bytes.now c.loop-event.place ≡ Next c.in-Ok-Some.event c.in-Ok-Some.behind = sym (rw c.in-Ok-Some.field-0-is at c.in-Ok-Some.ensures) in
    room_for c.args.bytes.now c.args.page.now c.loop-event.page c.loop-event.place c.loop-event.invariant.shows c.in-Ok-Some.event c.in-Ok-Some.behind
    found (omega arith)

pub loop-event-smaller : goal.loop-event-smaller
loop-event-smaller c =
    let found : event_at c.args.bytes.now c.loop-event.place ≡ Next c.in-Ok-Some.event c.in-Ok-Some.behind = sym (rw c.in-Ok-Some.field-0-is at c.in-Ok-Some.ensures) in
    nearer c.args.bytes.now c.args.page.now c.loop-event.page c.loop-event.place c.loop-event.invariant.shows c.in-Ok-Some.event c.in-Ok-Some.behind found

pub loop-event-preserved : goal.loop-event-preserved
loop-event-preserved c =
    let found : event_at c.args.bytes.now c.loop-event.place ≡ Next c.in-Ok-Some.event c.in-Ok-Some.behind = sym (rw c.in-Ok-Some.field-0-is at c.in-Ok-Some.ensures) in
    record {
      long = c.put_event_line.ensures.long ∙ c.loop-event.invariant.long;
      shows =
          goes_on c.args.bytes.now c.args.page.now c.loop-event.page c.loop-event.place c.loop-event.invariant.shows c.in-Ok-Some.event c.in-Ok-Some.behind
          found c.put_event_line.new.page c.put_event_line.ensures;
    }

pub returns-in-Ok-None : goal.returns-in-Ok-None
returns-in-Ok-None c =
    let found : event_at c.args.bytes.now c.loop-event.place ≡ End = sym (rw c.in-Ok-None.field-0-is at c.in-Ok-None.ensures) in
    ends c.args.bytes.now c.args.page.now c.loop-event.page c.loop-event.place c.loop-event.invariant.shows found

pub returns-in-Err : goal.returns-in-Err
returns-in-Err c =
    stops c.args.bytes.now c.args.page.now c.loop-event.page c.loop-event.place c.loop-event.invariant.shows _ (sym c.in-Err.ensures)
    c.put_refusal.new.page c.put_refusal.ensures
