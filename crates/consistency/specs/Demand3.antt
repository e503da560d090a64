-- Demand 3, stated of any bench f, over the states that it reaches from a fresh start: the one order explains everything that the processes saw.
use Rattle.std.specs.Prelude.{pos}
use Rattle.placing.specs.Sequential.{Sequential}
use Rattle.state.specs.declared.Event.{Event}
use Rattle.state.specs.State.{State}
use Rattle.state.specs.Step.{Outcome}
use Rattle.sc_abd.specs.Demand2.{ReachedBy}
use Rattle.consistency.specs.Operations.{operations_of, order_of}

abbrev pub Demand3 : (State → Event → Outcome) → Type 0
Demand3 f = (s : State) → ReachedBy f s → Sequential (pos 0) (operations_of s) (order_of s)
