use Rattle.recording.proofs.RecordingLaws.{long-reply, long-left, short-reply, short-left, none-fronts, long-fronts}
use Rattle.recording.proofs.history.Goals as goal

pub returns-then-out-lt-LONGEST_FILE-clause-value : goal.returns-then-out-lt-LONGEST_FILE-clause-value
returns-then-out-lt-LONGEST_FILE-clause-value c =
    (short-reply c.args.bytes.now c.args.out.now c.if-out-lt-LONGEST_FILE.true, short-left c.args.bytes.now c.args.out.now c.if-out-lt-LONGEST_FILE.true)

pub returns-then-out-lt-LONGEST_FILE-clause-fronts : goal.returns-then-out-lt-LONGEST_FILE-clause-fronts
returns-then-out-lt-LONGEST_FILE-clause-fronts c = none-fronts c.args.bytes.now c.args.out.now

pub returns-clause-value : goal.returns-clause-value
returns-clause-value c =
    let long = c.if-out-lt-LONGEST_FILE.false in
    (long-reply c.args.bytes.now c.args.out.now long _ _ c.history_into.ensures, long-left c.args.bytes.now c.args.out.now long _ _ c.history_into.ensures)

pub returns-clause-fronts : goal.returns-clause-fronts
returns-clause-fronts c = long-fronts c.args.bytes.now c.args.out.now _ _ c.history_into.ensures
