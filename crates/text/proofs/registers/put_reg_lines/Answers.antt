use Rattle.std.proofs.Common.{◌≡◌, ap, ◌∙◌, arith}
use Rattle.text.specs.LineLaws.{reg_taken, regs_are}
use Rattle.text.specs.PagedLaws.{adds_next, adds_text}
use Rattle.text.specs.Lines.{reg_texts}
use Rattle.text.proofs.registers.put_reg_lines.Goals as goal

pub loop-i-preserved : goal.loop-i-preserved
loop-i-preserved c =
    adds_text (reg_taken c.args.m c.args.replica.now.pairs c.args.p c.loop-i.i (omega arith)) (omega arith) (adds_next c.loop-i.invariant c.put_reg_line.ensures)

pub returns : goal.returns
returns c =
    let all : c.loop-i.i ≡ c.args.m = omega arith in
    adds_text (ap (reg_texts c.args.replica.now.pairs c.args.p 1) all ∙ regs_are c.args.replica.now c.args.p 1 c.args.m) (omega arith) c.loop-i.invariant
