-- The bytes of a list of events: one event more, and how many there are at most.
use Rattle.std.specs.Prelude.{ℕ, zero, suc, ◌+◌, ◌*◌, ◌≤◌, ◌<◌, ◌≡◌, List, [], ◌∷◌, ◌++◌, length, take, get_or}
use Rattle.std.proofs.Common.{sym, ap, ◌∙◌, append_assoc, append-nil, arith, add-one, length-append, take-suc}
use Rattle.state.specs.declared.Event.{Event}
use Rattle.state.specs.declared.Event.TheVariants.{Read, Write, Deliver, Crash, Lose}
use Rattle.writing.specs.Bytes.{event_bytes, events_bytes}
use Rattle.writing.proofs.SizeLaws.{read-size, write-size, deliver-size, crash-size, lose-size}

pub bytes-last : (events : List Event) (event : Event) → events_bytes (events ++ (event ∷ [])) ≡ events_bytes events ++ event_bytes event
bytes-last [] event = append-nil (event_bytes event)
bytes-last (e ∷ rest) event = ap (λ (bytes : List ℕ). event_bytes e ++ bytes) (bytes-last rest event) ∙ sym (append_assoc (event_bytes e) (events_bytes rest) (event_bytes event))

-- one event more of a list
pub one-event : (events : List Event) (i : ℕ) (none : Event) → i < length events
    → events_bytes (take i events) ++ event_bytes (get_or events i none) ≡ events_bytes (take (i + 1) events)
one-event events i none inside =
    sym (bytes-last (take i events) (get_or events i none))
    ∙ sym (ap (λ (n : ℕ). events_bytes (take n events)) (add-one i) ∙ ap events_bytes (take-suc events i none inside))

pub event-most : (event : Event) → length (event_bytes event) ≤ 11
event-most (Read p x) = omega (arith, read-size p x)
event-most (Write p x v) = omega (arith, write-size p x v)
event-most (Deliver k) = omega (arith, deliver-size k)
event-most (Crash p) = omega (arith, crash-size p)
event-most (Lose k) = omega (arith, lose-size k)

pub event-least : (event : Event) → 2 ≤ length (event_bytes event)
event-least (Read p x) = omega (arith, read-size p x)
event-least (Write p x v) = omega (arith, write-size p x v)
event-least (Deliver k) = omega (arith, deliver-size k)
event-least (Crash p) = omega (arith, crash-size p)
event-least (Lose k) = omega (arith, lose-size k)

pub bytes_most : (events : List Event) → length (events_bytes events) ≤ 11 * length events
bytes_most [] = omega arith
bytes_most (event ∷ rest) = omega (arith, length-append (event_bytes event) (events_bytes rest), event-most event, bytes_most rest)

-- the front of a list and one event more are no longer than all of it
pub front-most : (events : List Event) (i : ℕ) (none : Event) → i < length events
    → length (events_bytes (take i events)) + length (event_bytes (get_or events i none)) ≤ length (events_bytes events)
front-most [] i none inside = absurd (omega arith)
front-most (e ∷ rest) zero none inside = omega (arith, length-append (event_bytes e) (events_bytes rest))
front-most (e ∷ rest) (suc i) none inside =
    omega (arith, length-append (event_bytes e) (events_bytes rest), length-append (event_bytes e) (events_bytes (take i rest)), front-most rest i none (omega arith))

-- no more events than bytes
pub events-least : (events : List Event) → length events ≤ length (events_bytes events)
events-least [] = omega arith
events-least (event ∷ rest) = omega (arith, length-append (event_bytes event) (events_bytes rest), event-least event, events-least rest)
