-- Demand 1, stated of any public functions, so that it is a promise and not a description of ours: of the checks of document 01, in its order, the first that
-- holds is given; a call that is refused leaves bench and tables as they were; and one that is accepted leaves them well formed.
use Rattle.std.specs.Prelude.{ℕ, ◌≤◌, ◌≡◌, true, cond, List, length, replicate}
use Rattle.words.specs.declared.Message.{Message}
use Rattle.tables.specs.declared.Row.{Row}
use Rattle.tables.specs.Tables.{empty_message, empty_row}
use Rattle.state.specs.declared.Bench.{Bench}
use Rattle.state.specs.declared.Event.{Event}
use Rattle.state.specs.State.{view}
use Rattle.state.specs.Tabled.{tabled}
use Rattle.state.specs.Reached.{Reached}
use Rattle.standing.specs.declared.Status.TheVariants.{Down}
use Rattle.standing.specs.Status.{Statuses, statuses, downs}
use Rattle.bench.specs.Start.{no_bench, starts, start_reply}
use Rattle.bench.specs.Reply.{step_reply, step_messages, step_rows}
use Rattle.bench.specs.Listing.{list_reply, list_left}
use Rattle.schedule.specs.Opening.{run_reply, run_messages, run_rows}
use Rattle.promised.specs.Checks.{first_of, step_checks, status_checks, order_checks, start_checks, reading_checks}

-- ---- what a call gives: the number of refusal, the bench, and what the two lent tables then hold

pub record Given : Type 0 where
  pub refusal : ℕ
  pub bench : Bench
  pub messages : List Message
  pub rows : List Row

abbrev pub IsRefused : ℕ → Type 0
IsRefused number = number ≡ 0 → ⊥

abbrev pub Leaves : Given → Bench → List Message → List Row → Type 0
Leaves g b messages rows = (g.bench ≡ b) × (g.messages ≡ messages) × (g.rows ≡ rows)

abbrev pub Formed : Given → Type 0
Formed g = tabled g.bench g.messages g.rows ≡ true

abbrev pub WasReached : Given → Type 0
WasReached g = Reached (view g.bench g.messages g.rows)

-- ---- the demand, function by function

pub record OfStep (f : Bench → Event → List Message → List Row → Given) : Type 0 where
  pub first : (b : Bench) (e : Event) (messages : List Message) (rows : List Row) → (f b e messages rows).refusal ≡ first_of (step_checks b e messages rows)
  -- refused by whatever number, bench and both tables are as before
  pub refused : (b : Bench) (e : Event) (messages : List Message) (rows : List Row) → IsRefused (f b e messages rows).refusal → Leaves (f b e messages rows) b messages rows
  -- accepted, they are well formed
  pub kept : (b : Bench) (e : Event) (messages : List Message) (rows : List Row) → (f b e messages rows).refusal ≡ 0 → Formed (f b e messages rows)

-- both tables are lent to be read only
pub record OfStatus (f : Bench → List Message → List Row → Statuses) : Type 0 where
  pub first : (b : Bench) (messages : List Message) (rows : List Row) → (f b messages rows).refusal ≡ first_of (status_checks b messages rows)
  -- a refused status reads down
  pub refused : (b : Bench) (messages : List Message) (rows : List Row) → IsRefused (f b messages rows).refusal → (f b messages rows).of ≡ replicate 7 Down

-- how many rows are listed, and what the lent table of row numbers then holds; the bench's own tables are lent to be read only
pub record Listing : Type 0 where
  pub refusal : ℕ
  pub count : ℕ
  pub numbers : List ℕ

pub record OfOrder (f : Bench → List Message → List Row → List ℕ → Listing) : Type 0 where
  pub first : (b : Bench) (messages : List Message) (rows : List Row) (out : List ℕ) → (f b messages rows out).refusal ≡ first_of (order_checks b messages rows out)
  -- a refused order lists 0 rows, and the table is as before
  pub refused : (b : Bench) (messages : List Message) (rows : List Row) (out : List ℕ) → IsRefused (f b messages rows out).refusal
      → ((f b messages rows out).count ≡ 0) × ((f b messages rows out).numbers ≡ out)

pub record OfStart (f : ℕ → ℕ → List Message → List Row → Given) : Type 0 where
  pub first : (n m : ℕ) (messages : List Message) (rows : List Row) → (f n m messages rows).refusal ≡ first_of (start_checks n m messages rows)
  -- a refused start starts no bench: tables untouched
  pub refused : (n m : ℕ) (messages : List Message) (rows : List Row) → IsRefused (f n m messages rows).refusal → Leaves (f n m messages rows) no_bench messages rows
  pub kept : (n m : ℕ) (messages : List Message) (rows : List Row) → (f n m messages rows).refusal ≡ 0
      → Formed (f n m messages rows) × WasReached (f n m messages rows)

pub record OfRun (f : List Message → List Row → List ℕ → Given) : Type 0 where
  -- a file refused by 18 or 1 to 5 starts no bench: tables untouched
  pub unread : (messages : List Message) (rows : List Row) (bytes : List ℕ) → IsRefused (first_of (reading_checks messages rows bytes))
      → ((f messages rows bytes).refusal ≡ first_of (reading_checks messages rows bytes)) × Leaves (f messages rows bytes) no_bench messages rows
  -- else the run may stop at an event, by 6, 7 or one of the event's own, never by 18; and however it stops, all is well formed, and was reached
  pub read : (messages : List Message) (rows : List Row) (bytes : List ℕ) → first_of (reading_checks messages rows bytes) ≡ 0
      → ((f messages rows bytes).refusal ≤ 17) × Formed (f messages rows bytes) × WasReached (f messages rows bytes)

-- the public functions, and what is demanded of them
pub record Functions : Type 0 where
  pub start : ℕ → ℕ → List Message → List Row → Given
  pub step : Bench → Event → List Message → List Row → Given
  pub status : Bench → List Message → List Row → Statuses
  pub order : Bench → List Message → List Row → List ℕ → Listing
  pub run : List Message → List Row → List ℕ → Given

pub record Demand1 (fs : Functions) : Type 0 where
  pub start : OfStart fs.start
  pub step : OfStep fs.step
  pub status : OfStatus fs.status
  pub order : OfOrder fs.order
  pub run : OfRun fs.run

-- ours: each field is what the contract of that function says, in `bench/src/lib.rt` and `schedule/src/lib.rt`
abbrev pub ours : Functions
ours =
    record {
      start = λ n m messages rows.
          record {
            refusal = (start_reply n m (length messages) (length rows)).refusal;
            bench = (start_reply n m (length messages) (length rows)).bench;
            messages = cond (starts n m (length messages) (length rows)) (replicate 512 empty_message) messages;
            rows = cond (starts n m (length messages) (length rows)) (replicate 1024 empty_row) rows;
          };
      step = λ b e messages rows.
          record {
            refusal = (step_reply b e messages rows).refusal;
            bench = (step_reply b e messages rows).bench;
            messages = step_messages b e messages rows;
            rows = step_rows b e messages rows;
          };
      status = λ b messages rows. cond (tabled b messages rows) (statuses (view b messages rows)) (downs 18);
      order = λ b messages rows out.
          record {
            refusal = (list_reply b messages rows out).refusal;
            count = (list_reply b messages rows out).count;
            numbers = list_left b messages rows out;
          };
      run = λ messages rows bytes.
          record {
            refusal = (run_reply (length messages) (length rows) bytes).refusal;
            bench = (run_reply (length messages) (length rows) bytes).bench;
            messages = run_messages bytes messages rows;
            rows = run_rows bytes messages rows;
          };
    }
