use Rattle.std.proofs.Common.{arith}
use Rattle.replaying.proofs.ReplayedLaws.{long-reply, long-left, short-reply, short-left}
use Rattle.replaying.proofs.replay.Goals as goal

pub returns-then-out-lt-LONGEST_TEXT-clause-value : goal.returns-then-out-lt-LONGEST_TEXT-clause-value
returns-then-out-lt-LONGEST_TEXT-clause-value c =
    let fewer = c.if-out-lt-LONGEST_TEXT.true in (
      short-reply c.args.bytes.now c.args.out.now (omega (arith, fewer)),
      short-left c.args.bytes.now c.args.out.now (omega (arith, fewer)),
    )

pub returns-clause-value : goal.returns-clause-value
returns-clause-value c =
    let w = c.replay_into in (
      long-reply c.args.bytes.now c.args.out.now c.if-out-lt-LONGEST_TEXT.false w.result w.new.out w.ensures,
      long-left c.args.bytes.now c.args.out.now c.if-out-lt-LONGEST_TEXT.false w.result w.new.out w.ensures,
    )
