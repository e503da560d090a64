-- The bytes of a schedule file, from N, M and its events: document 01, "Schedule file". What is read at each place of a file is in `format`.
use Rattle.std.specs.Prelude.{ℕ, ◌/◌, ◌%◌, List, [], ◌∷◌, ◌++◌, ℤ, length}
use Rattle.std.specs.Int.{w64}
use Rattle.std.proofs.Common.{of_z}
use Rattle.state.specs.declared.Event.{Event}
use Rattle.state.specs.declared.Event.TheVariants.{Read, Write, Deliver, Crash, Lose}

-- four bytes, big-endian
unfoldable pub word_bytes : ℕ → List ℕ
word_bytes k = (k / 16777216) ∷ ((k / 65536 % 256) ∷ ((k / 256 % 256) ∷ ((k % 256) ∷ [])))

-- eight bytes, big-endian, two's complement
unfoldable pub value_bytes : ℤ → List ℕ
value_bytes v = word_bytes (of_z w64 v / 4294967296) ++ word_bytes (of_z w64 v % 4294967296)

-- process and register as given
unfoldable pub event_bytes : Event → List ℕ
event_bytes (Read p x) = 1 ∷ (p.0 ∷ (x ∷ []))
event_bytes (Write p x v) = 2 ∷ (p.0 ∷ (x ∷ value_bytes v))
event_bytes (Deliver k) = 3 ∷ word_bytes k
event_bytes (Crash p) = 4 ∷ (p.0 ∷ [])
event_bytes (Lose k) = 5 ∷ word_bytes k

-- what stands past the end of a list of events; nothing reads it
abbrev pub zero_event : Event
zero_event = Read (record { 0 = 0 }) 0

abbrev pub events_bytes : List Event → List ℕ
events_bytes [] = []
events_bytes (event ∷ rest) = event_bytes event ++ events_bytes rest

-- version 1, N, M, then events
abbrev pub behind_length : ℕ → ℕ → List Event → List ℕ
behind_length n m events = 1 ∷ (n ∷ (m ∷ events_bytes events))

-- the number of bytes that follow it comes first
unfoldable pub file_bytes : ℕ → ℕ → List Event → List ℕ
file_bytes n m events = word_bytes (length (behind_length n m events)) ++ behind_length n m events
