-- The text of a replay, from the bytes of its schedule: document 01, "Replay output". And what the functions of this crate reply and leave.
use Rattle.std.specs.Prelude.{ℕ, ◌≤◌, ◌≡◌, cond, Result, Ok, Err, List, eqb, leb, length, take}
use Rattle.words.specs.declared.refusal.Refusal.{Refusal}
use Rattle.words.specs.Limits.{most_flight}
use Rattle.tables.specs.declared.Row.{Row}
use Rattle.tables.specs.Tables.{laid_at}
use Rattle.state.specs.State.{laid_rows}
use Rattle.order.specs.Operations.{order_of}
use Rattle.text.specs.Printed.{printed, printed_refusal}
use Rattle.format.specs.Format.{file_refusal}
use Rattle.schedule.specs.Opening.{opens, ran_file}

-- a file refused by 1 to 5 prints only its number
unfoldable pub replayed : List ℕ → List ℕ
replayed bytes =
    cond (eqb (file_refusal bytes) 0)
    (printed (ran_file bytes).state (ran_file bytes).refusal (order_of (ran_file bytes).state.rows))
    (printed_refusal (file_refusal bytes))

-- how many bytes the text has, 0 if the buffer is not always long enough
unfoldable pub replay_reply : List ℕ → List ℕ → ℕ
replay_reply bytes out = cond (leb 81563 (length out)) (length (replayed bytes)) 0

-- the buffer with the text at its front
unfoldable pub replay_left : List ℕ → List ℕ → List ℕ
replay_left bytes out = cond (leb 81563 (length out)) (laid_at 0 (replayed bytes) out) out

-- what a result of the code stands for: 0 where nothing was written, and no text is empty
abbrev pub written : Result ℕ Refusal → ℕ
written (Ok n) = n
written (Err e) = 0

-- n bytes stand at the front of the buffer; said twice, so that whoever takes them out has it either way
abbrev pub Fronts : ℕ → List ℕ → Type 0
Fronts n out = (n ≤ length out) × (n ≡ length (take n out))

-- the history that a run leaves, over a table of messages of the right length
unfoldable pub rows_left : List ℕ → List Row → List Row
rows_left bytes rows = cond (opens most_flight (length rows) bytes) (laid_rows (ran_file bytes).state) rows
