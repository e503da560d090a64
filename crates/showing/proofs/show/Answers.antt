use Rattle.std.proofs.Common.{rules}
use Rattle.buffer.proofs.PrintingLaws.{long-reply, long-left, short-reply, short-left}
use Rattle.showing.specs.Shown.{shown}
use Rattle.showing.proofs.show.Goals as goal

pub returns-then-out-lt-LONGEST_TEXT-clause-value : goal.returns-then-out-lt-LONGEST_TEXT-clause-value
returns-then-out-lt-LONGEST_TEXT-clause-value c =
    let text = shown c.args.bytes.now in
    let short = c.if-out-lt-LONGEST_TEXT.true in
    (short-reply 393216 text c.args.out.now short, short-left 393216 text c.args.out.now short)

pub returns-clause-value : goal.returns-clause-value
returns-clause-value c =
    let text = shown c.args.bytes.now in
    let long = c.if-out-lt-LONGEST_TEXT.false in
    let w = c.put_shown.ensures.wrote in
    let left = long-left 393216 text c.args.out.now long w in
    (long-reply 393216 text c.args.out.now long w, search rules)
