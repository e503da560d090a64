-- Whole executions of Algorithm 1, from its start and within limits that are read off the system alone; and what it is that a bench performs one.
-- Lists of steps have the latest first.
use Rattle.std.specs.Prelude.{ℕ, ◌+◌, ◌-◌, ◌≤◌, ◌<◌, ◌≡◌, true, List, [], ◌∷◌, length}
use Rattle.words.specs.Limits.{most_events, most_flight, most_rows}
use Rattle.words.specs.Ranges.{within}
use Rattle.state.specs.declared.Event.{Event}
use Rattle.state.specs.State.{State, fresh}
use Rattle.state.specs.Step.{Outcome}
use Rattle.sc_abd.specs.System.{System, Action, Enabled, started, taken, on_arrival}
use Rattle.sc_abd.specs.Same.{Same}
use Rattle.sc_abd.specs.Demand2.{Names, register_of, WithinLimits, ReachedBy}

-- n processes after these steps
abbrev pub after : ℕ → List Action → System
after n [] = started n
after n (action ∷ steps) = taken (after n steps) action

-- with m registers: for a call a register 1..m, fewer than 1,024 calls so far, and at most 512 messages in transit with n more; for a receipt at most
-- 512 in transit after it
abbrev pub RoomFor : ℕ → System → Action → Type 0
RoomFor m a (Action.invoke i call) =
    (within (register_of call) m ≡ true) × (length a.history < most_rows) × (length a.transit + a.n ≤ most_flight)
RoomFor m a (Action.receive place) = length a.transit - 1 + length (on_arrival a place).sends ≤ most_flight
RoomFor m a (Action.crash i) = Unit {0}
RoomFor m a (Action.lose place) = Unit {0}

-- at most 12,000 steps, each enabled after those before it, and with room
pub data Execution (n m : ℕ) : List Action → Type 0 where
  start : Execution n m []
  next : (steps : List Action) (action : Action) → Execution n m steps
      → length steps < most_events → Enabled (after n steps) action → RoomFor m (after n steps) action → Execution n m (action ∷ steps)

-- bench f, started with n processes and m registers, has performed these steps and is in this state: for each step it has accepted an event that names it
pub data Performed (f : State → Event → Outcome) (n m : ℕ) : List Action → State → Type 0 where
  start : Performed f n m [] (fresh n m)
  next : (steps : List Action) (s : State) (action : Action) (e : Event) → Performed f n m steps s
      → Names s e action → (f s e).refusal ≡ 0 → Performed f n m (action ∷ steps) (f s e).state

-- demand 2 asks that every step within the limits is accepted; a bench keeps the limits if it accepts no other
abbrev pub KeepsLimits : (State → Event → Outcome) → Type 0
KeepsLimits f =
    (s : State) (a : System) (e : Event) (action : Action) → ReachedBy f s → Same s a → Names s e action → (f s e).refusal ≡ 0 → WithinLimits s a action
