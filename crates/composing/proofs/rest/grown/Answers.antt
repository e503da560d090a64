-- No event is longer than 11 bytes.
use Rattle.std.proofs.Common.{arith}
use Rattle.writing.proofs.EventsLaws.{event-most}
use Rattle.composing.proofs.rest.grown.Goals as goal

pub overflow_add-more : goal.overflow_add-more
overflow_add-more c = record { fits = omega (arith, c.size_of.ensures, event-most c.in-Does.event) }
