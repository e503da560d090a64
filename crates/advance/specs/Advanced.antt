-- What one step of the bench does to a bench and its two tables: it is `step` on the state that they hold.
use Rattle.std.specs.Prelude.{◌≡◌, List}
use Rattle.words.specs.declared.Message.{Message}
use Rattle.tables.specs.declared.Row.{Row}
use Rattle.state.specs.declared.Bench.{Bench}
use Rattle.state.specs.declared.Event.{Event}
use Rattle.state.specs.Stepped.{Stepped}
use Rattle.state.specs.State.{view, laid_messages, laid_rows}
use Rattle.state.specs.Step.{step}
use Rattle.state.specs.Tabled.{bench_of}

pub record Advanced (b : Bench) (event : Event) (messages : List Message) (rows : List Row) (r : Stepped) (messages' : List Message) (rows' : List Row) : Type 0 where
  pub refusal : r.refusal ≡ (step (view b messages rows) event).refusal
  pub bench : r.bench ≡ bench_of (step (view b messages rows) event).state
  pub messages-laid : messages' ≡ laid_messages (step (view b messages rows) event).state
  pub rows-laid : rows' ≡ laid_rows (step (view b messages rows) event).state
