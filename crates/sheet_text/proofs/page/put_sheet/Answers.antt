use Rattle.std.proofs.Common.{arith, rules}
use Rattle.text.specs.PagedLaws.{adds_next, adds_text}
use Rattle.sheet_text.specs.TextLaws.{whole_is}
use Rattle.sheet_text.proofs.page.put_sheet.Goals as goal

pub returns : goal.returns
returns c =
    let w = (adds_text {k = 1409} (whole_is c.args.sheet.now) (omega arith) (adds_next c.put_head.ensures c.put_rest.ensures)).wrote in
    search rules
