-- A whole file: how it opens, and what the run of it replies and leaves in the two lent tables. Document 01, "Schedule file" and "Numbers of refusal".
use Rattle.std.specs.Prelude.{ℕ, Bool, cond, not, ◌&&◌, List, eqb, length}
use Rattle.words.specs.declared.Message.{Message}
use Rattle.words.specs.Limits.{most_flight, most_rows}
use Rattle.tables.specs.declared.Row.{Row}
use Rattle.state.specs.Stepped.{Stepped}
use Rattle.state.specs.State.{State, fresh, laid_messages, laid_rows}
use Rattle.state.specs.Step.{check}
use Rattle.state.specs.Tabled.{bench_of}
use Rattle.format.specs.Format.{byte_at, file_refusal}
use Rattle.bench.specs.Start.{no_bench, replied, started_by}
use Rattle.schedule.specs.Run.{Ran, ran}

-- ---- how a file opens

-- 18 by the lengths of the two tables, then 1 to 5; 0 if a bench is started
unfoldable pub opening_refusal : ℕ → ℕ → List ℕ → ℕ
opening_refusal places history bytes = check (not (eqb places most_flight && eqb history most_rows)) 18 (file_refusal bytes)

abbrev pub opens : ℕ → ℕ → List ℕ → Bool
opens places history bytes = eqb (opening_refusal places history bytes) 0

-- the bench that it starts
abbrev pub begun : List ℕ → State
begun bytes = fresh (byte_at bytes 5) (byte_at bytes 6)

unfoldable pub opened : ℕ → ℕ → List ℕ → Stepped
opened places history bytes = started_by (opening_refusal places history bytes) (begun bytes)

-- ---- the run of a whole file

-- its events stand behind length, version, N and M
unfoldable pub ran_file : List ℕ → Ran
ran_file bytes = ran bytes 7 (begun bytes)

unfoldable pub run_reply : ℕ → ℕ → List ℕ → Stepped
run_reply places history bytes =
    cond (opens places history bytes) (replied (ran_file bytes).refusal (bench_of (ran_file bytes).state))
    (replied (opening_refusal places history bytes) no_bench)

-- a file that starts no bench leaves both tables as they were
unfoldable pub run_messages : List ℕ → List Message → List Row → List Message
run_messages bytes messages rows = cond (opens (length messages) (length rows) bytes) (laid_messages (ran_file bytes).state) messages

unfoldable pub run_rows : List ℕ → List Message → List Row → List Row
run_rows bytes messages rows = cond (opens (length messages) (length rows) bytes) (laid_rows (ran_file bytes).state) rows
