-- Demand 2, stated of any bench f, so that it is a promise and not a description of ours: each accepted event is the step of Algorithm 1 that the
-- event names, with its result; and each step of Algorithm 1 that is within the stated limits is accepted.
use Rattle.std.specs.Prelude.{ℕ, ◌+◌, ◌-◌, ◌≤◌, ◌<◌, ◌≡◌, true, length, Some}
use Rattle.words.specs.Limits.{most_events, most_flight, most_rows}
use Rattle.words.specs.Ranges.{within}
use Rattle.tables.specs.Tables.{seek}
use Rattle.state.specs.declared.Event.{Event}
use Rattle.state.specs.declared.Event.TheVariants.{Read, Write, Deliver, Crash, Lose}
use Rattle.state.specs.State.{State, fresh}
use Rattle.state.specs.Step.{Outcome}
use Rattle.sc_abd.specs.System.{Call, System, Action, Enabled, started, taken, on_arrival}
use Rattle.sc_abd.specs.Same.{Same}

-- the step that an event names in a state: k names the place of message k
pub data Names (s : State) : Event → Action → Type 0 where
  read : (p : _) (x : ℕ) → Names s (Read p x) (Action.invoke p.0 (Call.READ x))
  write : (p : _) (x : ℕ) (v : _) → Names s (Write p x v) (Action.invoke p.0 (Call.WRITE x v))
  deliver : (k place : ℕ) → seek k 0 s.flight ≡ Some place → Names s (Deliver k) (Action.receive place)
  crash : (p : _) → Names s (Crash p) (Action.crash p.0)
  lose : (k place : ℕ) → seek k 0 s.flight ≡ Some place → Names s (Lose k) (Action.lose place)

-- the register of a call
abbrev pub register_of : Call → ℕ
register_of (Call.READ r) = r
register_of (Call.WRITE r v) = r

-- within the limits: fewer than 12,000 events so far; for a call a register 1..M, a free row of 1,024, and room for N messages; for a receipt room
-- for what the algorithm then sends, 512 in flight after it
abbrev pub RoomLeft : State → System → Action → Type 0
RoomLeft s a (Action.invoke i call) =
    (within (register_of call) s.m ≡ true) × (length s.rows < most_rows) × (length s.flight + s.n ≤ most_flight)
RoomLeft s a (Action.receive place) = length s.flight - 1 + length (on_arrival a place).sends ≤ most_flight
RoomLeft s a (Action.crash i) = Unit {0}
RoomLeft s a (Action.lose place) = Unit {0}

abbrev pub WithinLimits : State → System → Action → Type 0
WithinLimits s a action = (s.accepted < most_events) × RoomLeft s a action

-- the states that a bench reaches from a fresh start
pub data ReachedBy (f : State → Event → Outcome) : State → Type 0 where
  start : (n m : ℕ) → within n 7 ≡ true → within m 16 ≡ true → ReachedBy f (fresh n m)
  next : (s : State) (e : Event) → ReachedBy f s → (f s e).refusal ≡ 0 → ReachedBy f (f s e).state

pub record Demand2 (f : State → Event → Outcome) : Type 0 where
  -- a fresh bench is the algorithm's start
  pub starts : (n m : ℕ) → within n 7 ≡ true → within m 16 ≡ true → Same (fresh n m) (started n)
  -- sound: an accepted event is the algorithm's step that it names, and the two are the same again
  pub sound : (s : State) (a : System) (e : Event) → ReachedBy f s → Same s a → (f s e).refusal ≡ 0
      → (action : Action) × Names s e action × Enabled a action × Same (f s e).state (taken a action)
  -- complete: a step of the algorithm within the limits is accepted, by an event that names it, and the two are the same again
  pub complete : (s : State) (a : System) (action : Action) → ReachedBy f s → Same s a → Enabled a action → WithinLimits s a action
      → (e : Event) × Names s e action × ((f s e).refusal ≡ 0) × Same (f s e).state (taken a action)
  -- what `WithinLimits` reads of the bench and `Same` does not tell: an accepted event is counted once, and the registers stay
  pub counted : (s : State) (e : Event) → ReachedBy f s → (f s e).refusal ≡ 0 → ((f s e).state.accepted ≡ s.accepted + 1) × ((f s e).state.m ≡ s.m)
  -- a refused event changes nothing
  pub refused : (s : State) (e : Event) → ReachedBy f s → ((f s e).refusal ≡ 0 → ⊥) → (f s e).state ≡ s
