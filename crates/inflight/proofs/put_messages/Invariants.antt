-- What a turn begins with: the lines of the first so many messages are written.
use Rattle.std.proofs.Common.{◌*◌, take}
use Rattle.text.specs.Paged.{Adds}
use Rattle.inflight.specs.Flight.{message_lines}
use Rattle.inflight.proofs.put_messages.Given as goal

abbrev pub invariant-loop-message : goal.invariant-loop-message
invariant-loop-message l = Adds (message_lines (take l.message-index l.messages)) (144 * l.message-index) l.fn.page l.page
