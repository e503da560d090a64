use Rattle.std.proofs.Common.{arith}
use Rattle.text.specs.PagedLaws.{adds_next, adds_text, adds_nothing}
use Rattle.sheet_text.specs.TextLaws.{not-met, met}
use Rattle.sheet_text.proofs.lines.put_refused_line.Goals as goal

pub returns-then-n-eq0 : goal.returns-then-n-eq0
returns-then-n-eq0 c = adds_text (not-met c.args.k c.args.n c.if-n-eq0.true) (omega arith) (adds_nothing c.args.page.now (omega arith))

pub returns : goal.returns
returns c = adds_text (met c.args.k c.args.n c.if-n-eq0.false) (omega arith) (adds_next c.put_named.ensures (adds_next c.put_number.ensures c.put_byte.ensures))
