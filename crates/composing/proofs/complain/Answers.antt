use Rattle.std.proofs.Common.{rules}
use Rattle.buffer.proofs.PrintingLaws.{long-reply, long-left, short-reply, short-left}
use Rattle.composing.specs.Complaint.{complaint}
use Rattle.composing.proofs.complain.Goals as goal

pub returns-then-out-lt-LONGEST_COMPLAINT-clause-value : goal.returns-then-out-lt-LONGEST_COMPLAINT-clause-value
returns-then-out-lt-LONGEST_COMPLAINT-clause-value c =
    let text = complaint c.args.line c.args.fault in
    let short = c.if-out-lt-LONGEST_COMPLAINT.true in
    (short-reply 66 text c.args.out.now short, short-left 66 text c.args.out.now short)

pub returns-clause-value : goal.returns-clause-value
returns-clause-value c =
    let text = complaint c.args.line c.args.fault in
    let long = c.if-out-lt-LONGEST_COMPLAINT.false in
    let w = c.put_complaint.ensures.wrote in
    let left = long-left 66 text c.args.out.now long w in
    (long-reply 66 text c.args.out.now long w, search rules)
