-- What `order` replies, and what it leaves in the lent table of row numbers. Where the bench and its tables are not well formed, or the table has not 1,024
-- places, it gives 18 and changes nothing; else the table has the one order of the history, with zeros behind it.
use Rattle.std.specs.Prelude.{ℕ, ◌-◌, Result, Ok, Err, Bool, cond, ◌&&◌, List, ◌++◌, eqb, length, replicate}
use Rattle.words.specs.declared.Message.{Message}
use Rattle.words.specs.declared.refusal.Refusal.{Refusal}
use Rattle.words.specs.Refusals.{number}
use Rattle.words.specs.Limits.{most_rows}
use Rattle.tables.specs.declared.Row.{Row}
use Rattle.state.specs.declared.Bench.{Bench}
use Rattle.state.specs.State.{view}
use Rattle.state.specs.Tabled.{tabled}
use Rattle.order.specs.Operations.{order_of}

-- the number of refusal, and how many row numbers were laid
pub record Ordered : Type 0 where
  pub refusal : ℕ
  pub count : ℕ

-- what a result of the code stands for
abbrev pub listing : Result ℕ Refusal → Ordered
listing (Ok count) = record { refusal = 0; count = count }
listing (Err e) = record { refusal = number e; count = 0 }

abbrev pub can_list : Bool → ℕ → Bool
can_list formed places = formed && eqb places most_rows

abbrev pub listed_reply : ℕ → Ordered
listed_reply count = record { refusal = 0; count = count }

abbrev pub unlisted : Ordered
unlisted = record { refusal = 18; count = 0 }

-- a list of row numbers, with zeros behind it
abbrev pub laid_numbers : List ℕ → List ℕ
laid_numbers numbers = numbers ++ replicate (most_rows - length numbers) 0

unfoldable pub list_reply : Bench → List Message → List Row → List ℕ → Ordered
list_reply b messages rows out = cond (can_list (tabled b messages rows) (length out)) (listed_reply (length (order_of (view b messages rows).rows))) unlisted

unfoldable pub list_left : Bench → List Message → List Row → List ℕ → List ℕ
list_left b messages rows out = cond (can_list (tabled b messages rows) (length out)) (laid_numbers (order_of (view b messages rows).rows)) out
