-- So our bench meets demand 3; and of any bench that meets demand 2, what it performs is explained.
use Rattle.std.specs.Prelude.{ℕ, ◌≡◌, true, List, pos}
use Rattle.std.proofs.Common.{sym, subst}
use Rattle.words.specs.Ranges.{within}
use Rattle.placing.specs.Sequential.{Sequential}
use Rattle.order.specs.Operations.{operations_of as of_rows, order_of as of_history}
use Rattle.tables.specs.declared.Row.{Row}
use Rattle.state.specs.declared.Event.{Event}
use Rattle.state.specs.State.{State}
use Rattle.state.specs.Step.{Outcome, step}
use Rattle.sc_abd.specs.System.{Action}
use Rattle.sc_abd.specs.Demand2.{Demand2}
use Rattle.sc_abd.specs.Executions.{Execution, Performed}
use Rattle.sc_abd.proofs.AnyBench.{rows-of-ours}
use Rattle.sc_abd.proofs.Theorem.{reached}
use Rattle.consistency.specs.Operations.{operations_of, order_of}
use Rattle.consistency.specs.Demand3.{Demand3}
use Rattle.consistency.proofs.Demand3Laws.{sequential}

pub step-meets-demand3 : Demand3 step
step-meets-demand3 s r = sequential s (reached r)

-- Demand 2 binds what the one order reads: of any bench that meets it, after any execution within the limits, the order explains what the processes saw
pub demand2-orders : (f : State → Event → Outcome) → Demand2 f → (n m : ℕ) → within n 7 ≡ true → within m 16 ≡ true
    → {steps : List Action} {s : State} → Execution n m steps → Performed f n m steps s → Sequential (pos 0) (operations_of s) (order_of s)
demand2-orders f d n m processes registers x p =
    let (t, r, same) = rows-of-ours f d n m processes registers x p in
    subst (λ (rows : List Row). Sequential (pos 0) (of_rows rows) (of_history rows)) (sym same) (sequential t (reached r))
