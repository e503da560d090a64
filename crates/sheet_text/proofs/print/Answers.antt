use Rattle.sheet_text.specs.TextLaws.{long-result, long-left, short-result, short-left}
use Rattle.sheet_text.proofs.print.Goals as goal

pub returns-then-out-lt-LONGEST_TEXT-clause-value : goal.returns-then-out-lt-LONGEST_TEXT-clause-value
returns-then-out-lt-LONGEST_TEXT-clause-value c =
    (short-result c.args.sheet c.args.out.now c.if-out-lt-LONGEST_TEXT.true, short-left c.args.sheet c.args.out.now c.if-out-lt-LONGEST_TEXT.true)

pub returns-clause-value : goal.returns-clause-value
returns-clause-value c =
    let long = c.if-out-lt-LONGEST_TEXT.false in
    (long-result c.args.sheet c.args.out.now long _ _ c.put_sheet.ensures, long-left c.args.sheet c.args.out.now long _ _ c.put_sheet.ensures)
