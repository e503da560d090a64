-- The two round trips: document 02, "Write schedules too". They hold of all files, and say nothing of a run.
use Rattle.std.specs.Prelude.{ℕ, ◌≡◌, List, length}
use Rattle.state.specs.declared.Event.{Event}
use Rattle.format.specs.Format.{byte_at, file_refusal}
use Rattle.writing.specs.Bytes.{file_bytes}
use Rattle.writing.specs.Held.{Bytes, HeldAll}
use Rattle.writing.specs.Reading.{read_out}
use Rattle.writing.specs.Writing.{write_refusal}

-- a file from which N, M and these events are read, to the end
pub record Reads (bytes : List ℕ) (n m : ℕ) (events : List Event) : Type 0 where
  pub opens : file_refusal bytes ≡ 0
  pub processes : byte_at bytes 5 ≡ n
  pub registers : byte_at bytes 6 ≡ m
  pub all : read_out bytes ≡ record { events = events; refusal = 0 }

-- reading what was written gives the same N, M and events: of each file that the writer does not refuse
abbrev pub ReadBack : Type 0
ReadBack = (n m : ℕ) (events : List Event) (room : ℕ) → HeldAll events → write_refusal n m (length (file_bytes n m events)) room ≡ 0 → Reads (file_bytes n m events) n m events

-- writing what was read gives the same bytes: of each file that 1 to 5 do not refuse and whose events, read to the end, meet neither 6 nor 7
abbrev pub WrittenBack : Type 0
WrittenBack = (bytes : List ℕ) → Bytes bytes → file_refusal bytes ≡ 0 → (read_out bytes).refusal ≡ 0 → file_bytes (byte_at bytes 5) (byte_at bytes 6) (read_out bytes).events ≡ bytes
