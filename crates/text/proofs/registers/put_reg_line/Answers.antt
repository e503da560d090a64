use Rattle.std.proofs.Common.{arith}
use Rattle.text.specs.LineLaws.{no-reg, reg-is}
use Rattle.text.specs.PagedLaws.{adds_nothing, adds_next, adds_text}
use Rattle.text.proofs.registers.put_reg_line.Goals as goal

pub returns-then-pair-eq0 : goal.returns-then-pair-eq0
returns-then-pair-eq0 c = adds_text (no-reg c.args.p c.args.x c.args.pair c.if-pair-eq0.true) (omega arith) (adds_nothing c.args.page.now (omega arith))

pub returns : goal.returns
returns c =
    adds_text (reg-is c.args.p c.args.x c.args.pair c.if-pair-eq0.false) (omega arith)
    (adds_next c.put_str.ensures (adds_next c.put_number.ensures (adds_next c.put_number-2.ensures (adds_next c.put_pair.ensures c.put_byte.ensures))))
