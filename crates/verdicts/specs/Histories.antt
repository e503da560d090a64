-- The rows and the row numbers of a file, in the chunks of bytes that the code cuts the file into.
use Rattle.std.specs.Prelude.{ℕ, ◌≤◌, ◌≡◌, Bool, true, ◌&&◌, List, length}
use Rattle.verdicts.specs.declared.history.History.{History}
use Rattle.verdicts.specs.Verdict.{sized, laid, rows_in, order_in, zeros}
use Rattle.verdicts.specs.Rows.{rows_of, numbers_of}

-- the file is laid out, and cut into its rows and its row numbers
pub record Cut (bytes : List ℕ) (rows order : List (List ℕ)) : Type 0 where
  pub few : length rows ≤ 1024
  pub whole : sized bytes ≡ true
  pub rows-are : rows_of rows ≡ rows_in bytes
  pub order-is : numbers_of order ≡ order_in bytes

-- not refused by 22
abbrev pub is_history : List ℕ → Bool
is_history bytes = sized bytes && laid (zeros 256) (rows_in bytes)

pub record Reads (bytes : List ℕ) (history : History) : Type 0 where
  pub whole : is_history bytes ≡ true
  pub rows-are : rows_of history.rows.now ≡ rows_in bytes
  pub order-is : numbers_of history.order.now ≡ order_in bytes
