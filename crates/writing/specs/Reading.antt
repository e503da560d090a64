-- The events of a file, read to the end: what `format` finds at each place, one after another, until the end, or until bytes that are no event (6, 7).
use Rattle.std.specs.Prelude.{ℕ, zero, suc, List, [], ◌∷◌, length}
use Rattle.state.specs.declared.Event.{Event}
use Rattle.format.specs.Parse.{Parse}
use Rattle.format.specs.Parse.{Next, Refused, End}
use Rattle.format.specs.Format.{event_at}

-- the events, and the number by which reading stopped, 0 at the end
pub record Reading : Type 0 where
  pub events : List Event
  pub refusal : ℕ

abbrev pub stopped_by : ℕ → Reading
stopped_by number = record { events = []; refusal = number }

abbrev pub behind : Event → Reading → Reading
behind event rest = record { events = event ∷ rest.events; refusal = rest.refusal }

-- what stands at a place, and what is read behind it
abbrev pub turned : (ℕ → Reading) → Parse → Reading
turned go End = stopped_by 0
turned go (Refused number) = stopped_by number
turned go (Next event at) = behind event (go at)

-- at most so many events, from a place on
unfoldable pub read_from : ℕ → List ℕ → ℕ → Reading
read_from zero bytes at = stopped_by 0
read_from (suc fuel) bytes at = turned (λ next. read_from fuel bytes next) (event_at bytes at)

-- they stand behind length, version, N and M; no more than bytes
unfoldable pub read_out : List ℕ → Reading
read_out bytes = read_from (length bytes) bytes 7
