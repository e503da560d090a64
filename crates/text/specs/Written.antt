-- What a function that writes a text promises: where the text ends, what the buffer holds, and how long the text is at most.
use Rattle.std.specs.Prelude.{ℕ, ◌+◌, ◌≤◌, ◌≡◌, List, length}
use Rattle.tables.specs.Tables.{laid_at}

-- the text of at most so many bytes was laid at a place of the buffer xs, which is now ys, and ends before r
pub record Wrote (at : ℕ) (text : List ℕ) (most : ℕ) (xs ys : List ℕ) (r : ℕ) : Type 0 where
  pub ends : r ≡ at + length text
  pub lays : ys ≡ laid_at at text xs
  pub short : length text ≤ most
  pub room : at + length text ≤ length xs
