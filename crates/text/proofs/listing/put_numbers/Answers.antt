use Rattle.std.proofs.Common.{arith}
use Rattle.text.specs.LineLaws.{one_number}
use Rattle.text.specs.PagedLaws.{adds_nothing, adds_next, adds_text}
use Rattle.text.proofs.listing.put_numbers.Goals as goal

pub loop-number-init : goal.loop-number-init
loop-number-init c = adds_nothing c.args.page.now (omega arith)

pub loop-number-preserved : goal.loop-number-preserved
loop-number-preserved c =
    adds_text (one_number c.args.order.now c.loop-number.number-index (omega arith)) (omega arith) (adds_next c.loop-number.invariant c.put_number.ensures)
