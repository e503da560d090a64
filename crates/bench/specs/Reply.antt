-- What `step` replies, and what it leaves in the two tables. Where the bench and its tables are not well formed it gives 18 and changes nothing; else it
-- is `step` of the state that they hold.
use Rattle.std.specs.Prelude.{cond, List}
use Rattle.words.specs.declared.Message.{Message}
use Rattle.tables.specs.declared.Row.{Row}
use Rattle.state.specs.declared.Bench.{Bench}
use Rattle.state.specs.declared.Event.{Event}
use Rattle.state.specs.Stepped.{Stepped}
use Rattle.state.specs.State.{view, laid_messages, laid_rows}
use Rattle.state.specs.Step.{step}
use Rattle.state.specs.Tabled.{tabled, bench_of}

abbrev pub unformed : Bench → Stepped
unformed b = record { refusal = 18; bench = b }

unfoldable pub step_reply : Bench → Event → List Message → List Row → Stepped
step_reply b event messages rows =
    record {
      refusal = cond (tabled b messages rows) (step (view b messages rows) event).refusal 18;
      bench = cond (tabled b messages rows) (bench_of (step (view b messages rows) event).state) b;
    }

unfoldable pub step_messages : Bench → Event → List Message → List Row → List Message
step_messages b event messages rows = cond (tabled b messages rows) (laid_messages (step (view b messages rows) event).state) messages

unfoldable pub step_rows : Bench → Event → List Message → List Row → List Row
step_rows b event messages rows = cond (tabled b messages rows) (laid_rows (step (view b messages rows) event).state) rows
