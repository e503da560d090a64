use Rattle.std.proofs.Common.{arith}
use Rattle.text.specs.PagedLaws.{adds_nothing, adds_next, adds_text}
use Rattle.inflight.proofs.FlightLaws.{one-message}
use Rattle.inflight.proofs.put_messages.Goals as goal

pub loop-message-init : goal.loop-message-init
loop-message-init c = adds_nothing c.args.page.now (omega arith)

pub loop-message-preserved : goal.loop-message-preserved
loop-message-preserved c =
    adds_text (one-message c.args.messages.now c.loop-message.message-index _ (omega arith)) (omega arith) (adds_next c.loop-message.invariant c.put_message_line.ensures)
