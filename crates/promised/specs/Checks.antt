-- The checks of each public function, in document 01's order ("Numbers of refusal"): a number of its list, and whether it is to be given. The first that holds is given, 0 if none does.
use Rattle.std.specs.Prelude.{ℕ, ◌+◌, ◌-◌, Bool, true, not, cond, ◌||◌, List, [], ◌∷◌, eqb, leb, ltb, length, get_or, Option, Some, None}
use Rattle.words.specs.declared.Message.{Message}
use Rattle.words.specs.Ranges.{within}
use Rattle.replica.specs.declared.Replica.{Replica}
use Rattle.replica.specs.Handlers.{is_idle}
use Rattle.replica.specs.Numbers.{sent_by}
use Rattle.tables.specs.declared.Row.{Row}
use Rattle.tables.specs.Tables.{empty_message, seek}
use Rattle.state.specs.declared.Bench.{Bench}
use Rattle.state.specs.declared.Event.{Event}
use Rattle.state.specs.declared.Event.TheVariants.{Read, Write, Deliver, Crash, Lose}
use Rattle.state.specs.State.{State, replica_of, view}
use Rattle.state.specs.Step.{full, no_room, heard}
use Rattle.state.specs.Tabled.{tabled, lengths_fit}
use Rattle.format.specs.Format.{byte_at, word_at}

abbrev pub Check : Type 0
Check = ℕ × Bool

abbrev pub first_of : List Check → ℕ
first_of [] = 0
first_of (check ∷ later) = cond check.1 check.0 (first_of later)

-- ---- an event's own: 17, then read and write 8, 9, 10, 11, 16, 15; deliver 12, 13, 15; crash 8, 10; lose 12, 14

abbrev pub invocation_checks : State → ℕ → ℕ → List Check
invocation_checks s p x =
    (8, not (within p s.n))
    ∷ (9, not (within x s.m))
    ∷ (10, (replica_of s p).crashed)
    ∷ (11, not (is_idle (replica_of s p).phase))
    ∷ (16, leb 1024 (length s.rows))
    ∷ (15, no_room (length s.flight + s.n))
    ∷ []

-- what would be in flight after a delivery: one message fewer, and what its recipient then sends
abbrev pub flight_after : State → Replica → Message → ℕ
flight_after s recipient message = length s.flight - 1 + sent_by s.n (heard s recipient message).sends

abbrev pub delivery_checks : State → Option ℕ → List Check
delivery_checks s None = (12, true) ∷ []
delivery_checks s (Some i) =
    let message = get_or s.flight i empty_message in
    let recipient = replica_of s message.to.0 in
    (13, recipient.crashed) ∷ (15, no_room (flight_after s recipient message)) ∷ []

abbrev pub loss_checks : State → Option ℕ → List Check
loss_checks s None = (12, true) ∷ []
loss_checks s (Some i) =
    let message = get_or s.flight i empty_message in
    (14, not ((replica_of s message.from.0).crashed || (replica_of s message.to.0).crashed)) ∷ []

abbrev pub own_checks : State → Event → List Check
own_checks s (Read p x) = invocation_checks s p.0 x
own_checks s (Write p x value) = invocation_checks s p.0 x
own_checks s (Deliver k) = delivery_checks s (seek k 0 s.flight)
own_checks s (Crash p) = (8, not (within p.0 s.n)) ∷ (10, (replica_of s p.0).crashed) ∷ []
own_checks s (Lose k) = loss_checks s (seek k 0 s.flight)

abbrev pub event_checks : State → Event → List Check
event_checks s e = (17, full s) ∷ own_checks s e

-- ---- the public functions

-- an event checks 18 before its own
abbrev pub step_checks : Bench → Event → List Message → List Row → List Check
step_checks b e messages rows = (18, not (tabled b messages rows)) ∷ event_checks (view b messages rows) e

-- status and order check 18
abbrev pub status_checks : Bench → List Message → List Row → List Check
status_checks b messages rows = (18, not (tabled b messages rows)) ∷ []

abbrev pub order_checks : Bench → List Message → List Row → List ℕ → List Check
order_checks b messages rows out = (18, not (tabled b messages rows)) ∷ (18, not (eqb (length out) 1024)) ∷ []

-- starting a bench checks 18 (lengths only), 4, 5
abbrev pub start_checks : ℕ → ℕ → List Message → List Row → List Check
start_checks n m messages rows = (18, not (lengths_fit messages rows)) ∷ (4, not (within n 7)) ∷ (5, not (within m 16)) ∷ []

-- reading checks 18 (lengths only), 1 to 5
abbrev pub file_checks : List ℕ → List Check
file_checks bytes =
    (1, ltb (length bytes) 7 || ltb 65536 (length bytes))
    ∷ (2, not (eqb (word_at bytes 0) (length bytes - 4)))
    ∷ (3, not (eqb (byte_at bytes 4) 1))
    ∷ (4, not (within (byte_at bytes 5) 7))
    ∷ (5, not (within (byte_at bytes 6) 16))
    ∷ []

abbrev pub reading_checks : List Message → List Row → List ℕ → List Check
reading_checks messages rows bytes = (18, not (lengths_fit messages rows)) ∷ file_checks bytes
