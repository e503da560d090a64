-- What P9 and P10 speak of: seven processes, one register, and any count of messages in flight. That these states are well formed is a part of the facts.
use Rattle.std.specs.Prelude.{ℕ, zero, suc, ◌+◌, ◌-◌, false, List, [], ◌∷◌, replicate}
use Rattle.words.specs.declared.Message.{Message}
use Rattle.words.specs.declared.Body.TheVariants.{Response, Ack}
use Rattle.words.specs.Quorum.{joined}
use Rattle.words.specs.Stamps.{start_pair}
use Rattle.replica.specs.declared.Phase.TheVariants.{Querying}
use Rattle.replica.specs.declared.Replica.{Replica}
use Rattle.replica.specs.Gathering.{nothing_gathered}
use Rattle.replica.specs.Handlers.{letter}
use Rattle.tables.specs.declared.Row.{Row}
use Rattle.state.specs.State.{State, fresh_replica}
use Rattle.state.specs.Step.{message_of, read_row}

-- so many acks from process 2 to process 1 that nobody waits for, numbered one after another
unfoldable pub strays : ℕ → ℕ → List Message
strays first zero = []
strays first (suc left) = message_of first 2 1 (letter 0 0 Ack) ∷ strays (first + 1) left

-- as many events as messages were sent, and all of these are in flight
abbrev pub seven_with : ℕ → List Replica → List Message → List Row → State
seven_with count replicas flight rows =
    record {
      n = 7;
      m = 1;
      accepted = count;
      sent = count;
      delivered = 0;
      lost = 0;
      replicas = replicas;
      flight = flight;
      rows = rows;
    }

-- ---- P9: all processes are up and idle

unfoldable pub crowded : ℕ → State
crowded count = seven_with count (replicate 7 fresh_replica) (strays 1 count) []

-- ---- P10: process 1 reads register 1, and the response of process 4 is message 1

-- 1, 2 and 3 have replied to it
unfoldable pub asking : Replica
asking =
    record {
      crashed = false;
      clock = record { 0 = 1 };
      rid = record { 0 = 1 };
      phase = Querying 1 nothing_gathered;
      repliers = joined (joined (joined 0 1) 2) 3;
      pairs = replicate 16 start_pair;
    }

unfoldable pub fourth : Message
fourth = message_of 1 4 1 (letter 1 1 (Response start_pair))

unfoldable pub deciding : ℕ → State
deciding count = seven_with count (asking ∷ replicate 6 fresh_replica) (fourth ∷ strays 2 (count - 1)) (read_row 1 1 1 ∷ [])
