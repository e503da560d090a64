-- What a run and one turn of it do to a bench and its two tables.
use Rattle.std.specs.Prelude.{ℕ, ◌<◌, ◌≤◌, ◌≡◌, Bool, true, false, Option, Some, None, Result, Ok, Err, List, eqb, length}
use Rattle.words.specs.declared.refusal.Refusal.{Refusal}
use Rattle.words.specs.declared.Message.{Message}
use Rattle.words.specs.Refusals.{number}
use Rattle.words.specs.Stops.{stop_number}
use Rattle.tables.specs.declared.Row.{Row}
use Rattle.state.specs.declared.Bench.{Bench}
use Rattle.state.specs.Stepped.{Stepped}
use Rattle.state.specs.State.{State, view, laid_messages, laid_rows}
use Rattle.state.specs.Step.{step}
use Rattle.state.specs.Tabled.{tabled, bench_of}
use Rattle.format.specs.Parse.{Parse, Next, Refused, End}
use Rattle.bench.specs.Start.{no_bench}
use Rattle.schedule.specs.declared.Ran.{Ran}
use Rattle.schedule.specs.Run.{stopped, ran}

-- ---- a run: it is `ran` on the state that they hold

pub record RanOn (b : Bench) (bytes : List ℕ) (at : ℕ) (messages : List Message) (rows : List Row) (r : Stepped) (messages' : List Message) (rows' : List Row) : Type 0 where
  pub refusal : r.refusal ≡ (ran bytes at (view b messages rows)).refusal
  pub bench : r.bench ≡ bench_of (ran bytes at (view b messages rows)).state
  pub messages-laid : messages' ≡ laid_messages (ran bytes at (view b messages rows)).state
  pub rows-laid : rows' ≡ laid_rows (ran bytes at (view b messages rows)).state

-- ---- what the results of the code stand for

abbrev pub stepped_by : Ran → Stepped
stepped_by r = record { refusal = stop_number r.stopped; bench = r.bench }

-- a file that is refused starts no bench
abbrev pub replied_by : Result Ran Refusal → Stepped
replied_by (Ok r) = stepped_by r
replied_by (Err e) = record { refusal = number e; bench = no_bench }

-- ---- one turn

-- whether the run goes on from this state, and where
pub record Went : Type 0 where
  pub go : Bool
  pub refusal : ℕ
  pub state : State
  pub at : ℕ

abbrev pub went : State → Parse → Went
went s (Next event at) = record { go = eqb (step s event).refusal 0; refusal = (step s event).refusal; state = (step s event).state; at = at }
went s (Refused number) = record { go = false; refusal = number; state = s; at = 0 }
went s End = record { go = false; refusal = 0; state = s; at = 0 }

-- an event was carried out: the rest of the run goes on behind it
pub record Goes (b : Bench) (bytes : List ℕ) (at : ℕ) (messages : List Message) (rows : List Row) (b' : Bench) (at' : ℕ) (messages' : List Message) (rows' : List Row) : Type 0 where
  pub tables : tabled b' messages' rows' ≡ true
  pub rest : ran bytes at (view b messages rows) ≡ ran bytes at' (view b' messages' rows')
  pub further : at < at'
  pub within : at' ≤ length bytes

-- the run stops here, by a number of refusal, or by 0 at the end
pub record Stops (b : Bench) (bytes : List ℕ) (at : ℕ) (messages : List Message) (rows : List Row) (stop : ℕ) (messages' : List Message) (rows' : List Row) : Type 0 where
  pub run : ran bytes at (view b messages rows) ≡ stopped stop (view b messages rows)
  pub messages-stay : messages' ≡ messages
  pub rows-stay : rows' ≡ rows

abbrev pub Turned : Bench → List ℕ → ℕ → List Message → List Row → Result (Option (Bench × ℕ)) Refusal → List Message → List Row → Type 0
Turned b bytes at messages rows (Ok (Some next)) = Goes b bytes at messages rows next.0 next.1
Turned b bytes at messages rows (Ok None) = Stops b bytes at messages rows 0
Turned b bytes at messages rows (Err e) = Stops b bytes at messages rows (number e)
