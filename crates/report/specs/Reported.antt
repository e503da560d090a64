-- What the whole text in a buffer is: the text of the state that a bench and its two tables hold. Of the messages it says only how many are in flight,
-- which the bench counts: so it is the text whatever table the messages lie in.
use Rattle.std.specs.Prelude.{ℕ, ◌≤◌, List, length}
use Rattle.words.specs.declared.Message.{Message}
use Rattle.tables.specs.declared.Row.{Row}
use Rattle.state.specs.declared.Bench.{Bench}
use Rattle.state.specs.State.{view}
use Rattle.text.specs.Printed.{printed}
use Rattle.text.specs.Short.{ShortBench, ShortRows}
use Rattle.text.specs.Written.{Wrote}

abbrev pub Reported : Bench → ℕ → List Row → List ℕ → List ℕ → List ℕ → ℕ → Type 0
Reported b refusal rows order xs ys r =
    (messages : List Message) → b.flight ≤ length messages → Wrote 0 (printed (view b messages rows) refusal order) 81563 xs ys r

-- what a text is asked of: a bench within its limits, its rows in the table, and times of at most five digits
abbrev pub Reportable : Bench → List Row → List ℕ → Type 0
Reportable b rows order =
    (b.n ≤ 7) × ((b.m ≤ 16) × ((b.rows ≤ length rows) × ((b.rows ≤ 1024) × ((length order ≤ 1024) × (ShortBench b × ShortRows b.rows rows)))))
