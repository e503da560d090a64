-- A file that starts a bench: the table holds the messages in flight, and there are at most 512. Any other: only the number of refusal.
use Rattle.std.proofs.Common.{length-take-le, sym, arith}
use Rattle.inflight.proofs.FlightLaws.{flown, refused, in_table, few-lines, text-written}
use Rattle.inflight.proofs.put_flight.Goals as goal

pub slice_bounds-messages-end : goal.slice_bounds-messages-end
slice_bounds-messages-end c = in_table (flown c.args.bytes.now _ c.in-Ok.ensures.reply c.in-Ok.ensures.opens)

pub slice_bounds-put_messages-end : goal.slice_bounds-put_messages-end
slice_bounds-put_messages-end c = sym (length-take-le _ _ (in_table (flown c.args.bytes.now _ c.in-Ok.ensures.reply c.in-Ok.ensures.opens)))

pub put_messages-requires : goal.put_messages-requires
put_messages-requires c = omega (arith, few-lines (flown c.args.bytes.now _ c.in-Ok.ensures.reply c.in-Ok.ensures.opens))

pub returns-in-Ok : goal.returns-in-Ok
returns-in-Ok c = text-written (flown c.args.bytes.now _ c.in-Ok.ensures.reply c.in-Ok.ensures.opens) c.put_messages.ensures

pub returns-in-Err : goal.returns-in-Err
returns-in-Err c = refused c.args.bytes.now _ c.in-Err.ensures.reply c.in-Err.ensures.opens c.put_refusal.ensures
