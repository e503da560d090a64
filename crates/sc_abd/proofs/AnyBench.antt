-- Any bench that meets demand 2 shows the rows that ours shows: what it performed within the limits ours performs too, and two states that are the
-- same as one system have the same rows. So what the one order is read off leaves no choice.
use Rattle.std.specs.Prelude.{ℕ, ◌≡◌, true, List}
use Rattle.words.specs.Ranges.{within}
use Rattle.state.specs.declared.Event.{Event}
use Rattle.state.specs.State.{State}
use Rattle.state.specs.Step.{Outcome, step}
use Rattle.sc_abd.specs.System.{Action}
use Rattle.sc_abd.proofs.SameLaws.{rows-once}
use Rattle.sc_abd.specs.Demand2.{ReachedBy, Demand2}
use Rattle.sc_abd.specs.Executions.{after, Execution, Performed}
use Rattle.sc_abd.proofs.ExecutionsLaws.{performed-reached, performed-same, step-performs}
use Rattle.sc_abd.proofs.Theorem.{step-meets-demand2}

pub rows-of-ours : (f : State → Event → Outcome) → Demand2 f → (n m : ℕ) → within n 7 ≡ true → within m 16 ≡ true
    → {steps : List Action} {s : State} → Execution n m steps → Performed f n m steps s → (t : State) × ReachedBy step t × (s.rows ≡ t.rows)
rows-of-ours f d n m processes registers {steps} {s} x p =
    let (t, q, same, count) = step-performs n m processes registers x in (
      t,
      performed-reached step step-meets-demand2 n m processes registers q,
      rows-once s t (after n steps) (performed-same f d n m processes registers p) same,
    )
