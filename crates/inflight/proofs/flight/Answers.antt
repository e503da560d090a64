use Rattle.std.proofs.Common.{rules}
use Rattle.buffer.proofs.PrintingLaws.{long-reply, long-left, short-reply, short-left}
use Rattle.inflight.specs.Flight.{in_flight}
use Rattle.inflight.proofs.flight.Goals as goal

pub returns-then-out-lt-LONGEST_TEXT-clause-value : goal.returns-then-out-lt-LONGEST_TEXT-clause-value
returns-then-out-lt-LONGEST_TEXT-clause-value c =
    let short = c.if-out-lt-LONGEST_TEXT.true in
    let text = in_flight c.args.bytes.now in
    let out = c.args.out.now in
    (short-reply 73728 text out short, short-left 73728 text out short)

pub returns-clause-value : goal.returns-clause-value
returns-clause-value c =
    let long = c.if-out-lt-LONGEST_TEXT.false in
    let text = in_flight c.args.bytes.now in
    let out = c.args.out.now in
    let w = c.put_flight.ensures.wrote in
    let left = long-left 73728 text out long w in
    (long-reply 73728 text out long w, search rules)
