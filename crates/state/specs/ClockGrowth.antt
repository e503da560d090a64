-- Document 01: "the greatest among the clocks and the times of messages in flight".
use Rattle.std.specs.Prelude.{ℕ, max, List, [], ◌∷◌}
use Rattle.words.specs.declared.Message.{Message}
use Rattle.replica.specs.declared.Replica.{Replica}
use Rattle.state.specs.State.{State}

-- 0 of an empty list
abbrev pub greatest_of : {A : Type 0} → (A → ℕ) → List A → ℕ
greatest_of number [] = 0
greatest_of number (a ∷ rest) = max (number a) (greatest_of number rest)

abbrev pub clock_of : Replica → ℕ
clock_of r = r.clock.0

abbrev pub time_of : Message → ℕ
time_of message = message.time.0

abbrev pub greatest : State → ℕ
greatest s = max (greatest_of clock_of s.replicas) (greatest_of time_of s.flight)
