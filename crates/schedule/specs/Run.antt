-- The run of a schedule's events from a state: document 01, "Schedule file". It stops at the end, at bytes that are no event, or at the first event that is refused.
use Rattle.std.specs.Prelude.{ℕ, zero, suc, ◌-◌, cond, List, eqb, length}
use Rattle.state.specs.State.{State}
use Rattle.state.specs.Step.{Outcome, step}
use Rattle.format.specs.Parse.{Parse}
use Rattle.format.specs.Parse.{Next, Refused, End}
use Rattle.format.specs.Format.{event_at, parse_refusal}

-- the number of refusal, 0 if the end was reached, and the state after the last accepted event
pub record Ran : Type 0 where
  pub refusal : ℕ
  pub state : State

abbrev pub stopped : ℕ → State → Ran
stopped number s = record { refusal = number; state = s }

-- an accepted event: the run goes on; a refused one stops it
abbrev pub followed : State → (State → Ran) → Outcome → Ran
followed s go o = cond (eqb o.refusal 0) (go o.state) (stopped o.refusal s)

-- what stands at a place, and what is done behind it
abbrev pub turned : State → (ℕ → State → Ran) → Parse → Ran
turned s go End = stopped (parse_refusal End) s
turned s go (Refused number) = stopped (parse_refusal (Refused number)) s
turned s go (Next event at) = followed s (go at) (step s event)

-- at most so many events, from a place on
unfoldable pub ran_from : ℕ → List ℕ → ℕ → State → Ran
ran_from zero bytes at s = stopped 0 s
ran_from (suc fuel) bytes at s = turned s (λ next t. ran_from fuel bytes next t) (event_at bytes at)

-- no more events than bytes
abbrev pub ran : List ℕ → ℕ → State → Ran
ran bytes at s = ran_from (length bytes - at) bytes at s
