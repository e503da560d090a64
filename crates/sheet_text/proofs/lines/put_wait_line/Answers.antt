use Rattle.std.proofs.Common.{arith}
use Rattle.text.specs.PagedLaws.{adds_next, adds_text}
use Rattle.sheet_text.specs.TextLaws.{no-waits, some-waits}
use Rattle.sheet_text.proofs.lines.put_wait_line.Goals as goal

pub returns-then-w-eq0 : goal.returns-then-w-eq0
returns-then-w-eq0 c = adds_text (no-waits c.args.w c.if-w-eq0.true) (omega arith) c.put_str.ensures

pub returns : goal.returns
returns c = adds_text (some-waits c.args.w c.if-w-eq0.false) (omega arith) (adds_next c.put_str-2.ensures (adds_next c.put_mean.ensures (adds_next c.put_number.ensures (adds_next c.put_number-2.ensures c.put_byte.ensures))))
