-- A bench and its two lent tables as `start` and any number of accepted `step`s leave them; and what it says that `order` explains such a bench's history.
use Rattle.std.specs.Prelude.{ℕ, ◌≡◌, List, pos, length, replicate}
use Rattle.words.specs.declared.Message.{Message}
use Rattle.tables.specs.declared.Row.{Row}
use Rattle.tables.specs.Tables.{empty_message, empty_row}
use Rattle.state.specs.declared.Bench.{Bench}
use Rattle.state.specs.declared.Event.{Event}
use Rattle.state.specs.State.{view}
use Rattle.placing.specs.Sequential.{Sequential}
use Rattle.placing.specs.RealTime.{RealTime}
use Rattle.order.specs.Operations.{operations_of}
use Rattle.bench.specs.Start.{start_reply}
use Rattle.bench.specs.Reply.{step_reply, step_messages, step_rows}
use Rattle.bench.specs.Listing.{list_reply, list_left, listed_reply, laid_numbers}

pub data Lent : Bench → List Message → List Row → Type 0 where
  started : (n m : ℕ) → (start_reply n m 512 1024).refusal ≡ 0
      → Lent (start_reply n m 512 1024).bench (replicate 512 empty_message) (replicate 1024 empty_row)
  stepped : (b : Bench) (event : Event) (messages : List Message) (rows : List Row) → Lent b messages rows → (step_reply b event messages rows).refusal ≡ 0
      → Lent (step_reply b event messages rows).bench (step_messages b event messages rows) (step_rows b event messages rows)

-- ---- `order` is not refused for a table of this length, and what it lays there is an order of the history that explains it

abbrev pub history : Bench → List Message → List Row → List Row
history b messages rows = (view b messages rows).rows

pub record Explained (b : Bench) (messages : List Message) (rows : List Row) (out : List ℕ) : Type 0 where
  pub numbers : List ℕ
  pub reply : list_reply b messages rows out ≡ listed_reply (length numbers)
  pub laid : list_left b messages rows out ≡ laid_numbers numbers
  pub consistent : Sequential (pos 0) (operations_of (history b messages rows)) numbers
  pub in-time : RealTime (operations_of (history b messages rows)) numbers
