-- What the writer replies, and what it leaves in the lent output: document 02, "Write schedules too".
use Rattle.std.specs.Prelude.{ℕ, cond, not, List, eqb, ltb, length, Result, Ok, Err}
use Rattle.words.specs.Ranges.{within}
use Rattle.tables.specs.Tables.{laid_at}
use Rattle.state.specs.declared.Event.{Event}
use Rattle.words.specs.declared.refusal.Refusal.{Refusal}
use Rattle.words.specs.Refusals.{number}
use Rattle.writing.specs.Bytes.{file_bytes}

-- the first that holds, of a file of so many bytes and an output of so many: 4, 5, 1, 19; 0 if none
unfoldable pub write_refusal : ℕ → ℕ → ℕ → ℕ → ℕ
write_refusal n m size room =
    cond (not (within n 7)) 4
    (cond (not (within m 16)) 5
    (cond (ltb 65536 size) 1
    (cond (ltb room size) 19 0)))

-- the reply: the number of refusal, 0 if the file was written, and how many bytes the file has
pub record Filed : Type 0 where
  pub refusal : ℕ
  pub size : ℕ

-- a refused file has no bytes
abbrev pub filed : ℕ → ℕ → Filed
filed refusal size = record { refusal = refusal; size = cond (eqb refusal 0) size 0 }

-- what the code replies, by number
abbrev pub filed_as : Result ℕ Refusal → Filed
filed_as (Ok size) = record { refusal = 0; size = size }
filed_as (Err refusal) = record { refusal = number refusal; size = 0 }

unfoldable pub write_reply : ℕ → ℕ → List Event → ℕ → Filed
write_reply n m events room =
    let size = length (file_bytes n m events) in
    filed (write_refusal n m size room) size

-- the file stands in front, and what is behind it is as before; refused, all of it
unfoldable pub write_left : ℕ → ℕ → List Event → List ℕ → List ℕ
write_left n m events out =
    let file = file_bytes n m events in
    cond (eqb (write_refusal n m (length file) (length out)) 0) (laid_at 0 file out) out
