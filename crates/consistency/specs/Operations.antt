-- The operations of a state, and their one order.
use Rattle.std.specs.Prelude.{ℕ, List, ℤ}
use Rattle.placing.specs.Operation.{Operation}
use Rattle.order.specs.Operations.{operations_of as of_rows, order_of as of_history}
use Rattle.state.specs.State.{State}

abbrev pub operations_of : State → List (Operation ℤ)
operations_of s = of_rows s.rows

abbrev pub order_of : State → List ℕ
order_of s = of_history s.rows
