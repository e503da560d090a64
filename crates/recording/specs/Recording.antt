-- The history file of a schedule, from its bytes: document 02, "Wish 10". And what the function of this crate replies and leaves.
use Rattle.std.specs.Prelude.{ℕ, cond, List, eqb, leb, length}
use Rattle.tables.specs.Tables.{laid_at}
use Rattle.text.specs.Printed.{printed_refusal}
use Rattle.format.specs.Format.{file_refusal}
use Rattle.schedule.specs.Opening.{ran_file}
use Rattle.histories.specs.OwnFile.{own_file}

-- a schedule refused by 1 to 5 gives only the line with its number
unfoldable pub recorded : List ℕ → List ℕ
recorded bytes = cond (eqb (file_refusal bytes) 0) (own_file (ran_file bytes).state.rows) (printed_refusal (file_refusal bytes))

-- how many bytes the file has, 0 if the buffer is not always long enough
unfoldable pub history_reply : List ℕ → List ℕ → ℕ
history_reply bytes out = cond (leb 14345 (length out)) (length (recorded bytes)) 0

-- the buffer with the file at its front
unfoldable pub history_left : List ℕ → List ℕ → List ℕ
history_left bytes out = cond (leb 14345 (length out)) (laid_at 0 (recorded bytes) out) out
