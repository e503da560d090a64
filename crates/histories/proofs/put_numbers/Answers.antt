use Rattle.std.proofs.Common.{arith, ap}
use Rattle.std.proofs.lemmas.List.{take_all}
use Rattle.text.specs.PagedLaws.{adds_next, adds_text, adds_nothing}
use Rattle.verdicts.specs.File.{numbers_bytes}
use Rattle.histories.specs.RecordedLaws.{one_number}
use Rattle.histories.proofs.put_numbers.Goals as goal

pub loop-number-init : goal.loop-number-init
loop-number-init c = adds_nothing c.args.page.now (omega arith)

pub put_number-requires : goal.put_number-requires
put_number-requires c = let h = c.loop-number.invariant in omega (arith, h.long, h.wrote.ends, h.wrote.short)

pub loop-number-preserved : goal.loop-number-preserved
loop-number-preserved c = adds_text (one_number c.args.order.now c.loop-number.number-index c.loop-number-test.true) (omega arith) (adds_next c.loop-number.invariant c.put_number.ensures)

pub returns : goal.returns
returns c =
    let l = c.loop-number in
    let all = ap numbers_bytes (take_all l.number-index c.args.order.now c.loop-number-test.false) in
    adds_text all (omega arith) l.invariant
