-- What a turn begins with: the bench is tabled, and what is still to be done is the whole run.
use Rattle.std.proofs.Common.{◌-◌, length}
use Rattle.state.specs.State.{view}
use Rattle.schedule.specs.Run.{ran}
use Rattle.schedule.proofs.TurnLaws.{Going}
use Rattle.schedule.proofs.run_events.Given as goal

abbrev pub invariant-loop-next : goal.invariant-loop-next
invariant-loop-next l = Going l.bytes l.bench l.at l.messages l.rows (ran l.bytes l.fn.at (view l.fn.bench l.fn.messages l.fn.rows))

abbrev pub decreases-loop-next : goal.decreases-loop-next
decreases-loop-next l = length l.bytes - l.at
