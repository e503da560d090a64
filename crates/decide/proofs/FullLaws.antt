-- That 12,000 events are accepted already (17) is checked before all else.
use Rattle.std.specs.Prelude.{ℕ, ◌≡◌, refl, Bool, true, Option, Some, None, Err}
use Rattle.words.specs.declared.Message.{Message}
use Rattle.replica.specs.declared.Replica.{Replica}
use Rattle.tables.specs.declared.Row.{Row}
use Rattle.tables.specs.Tables.{seek}
use Rattle.state.specs.declared.Event.{Event}
use Rattle.state.specs.declared.Event.TheVariants.{Read, Write, Deliver, Crash, Lose}
use Rattle.state.specs.State.{State}
use Rattle.state.specs.Step.{full}
use Rattle.decide.specs.declared.Counters.{Counters}
use Rattle.decide.specs.Checks.{full as full_of}
use Rattle.decide.specs.Plan.{plan_of, invoke_plan, deliver_plan, crash_plan, lose_plan}
use Rattle.decide.specs.PlanBy.{plan_by, invoke_by, deliver_by, crash_by, lose_by}

pub full_first : (s : State) (event : Event) → full s ≡ true → Err 17 ≡ plan_of s event
unfolding plan_of invoke_plan deliver_plan crash_plan lose_plan
full_first s (Read p x) e = rw e refl
full_first s (Write p x value) e = rw e refl
full_first s (Deliver k) e = go (seek k 0 s.flight)
  where
    go : (found : Option ℕ) → Err 17 ≡ deliver_plan s found
    go None = rw e refl
    go (Some i) = rw e refl
full_first s (Crash p) e = rw e refl
full_first s (Lose k) e = go (seek k 0 s.flight)
  where
    go : (found : Option ℕ) → Err 17 ≡ lose_plan s found
    go None = rw e refl
    go (Some i) = rw e refl

pub full_by : (c : Counters) (event : Event) (found : Option ℕ) (message : Message) (down : Bool) (r : Replica) (row : Row) → full_of c ≡ true → Err 17 ≡ plan_by c event found message down r row
unfolding plan_by invoke_by deliver_by crash_by lose_by
full_by c (Read p x) found message down r row e = rw e refl
full_by c (Write p x value) found message down r row e = rw e refl
full_by c (Deliver k) None message down r row e = rw e refl
full_by c (Deliver k) (Some i) message down r row e = rw e refl
full_by c (Crash p) found message down r row e = rw e refl
full_by c (Lose k) None message down r row e = rw e refl
full_by c (Lose k) (Some i) message down r row e = rw e refl
