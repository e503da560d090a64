-- The documents' numbers and values for the cases of an answer: how many messages are sent, when an operation was answered, its pair, and whose
-- replies ended a phase; and of a phase, the row that it points to.
use Rattle.std.specs.Prelude.{ℕ}
use Rattle.words.specs.declared.Pair.{Pair}
use Rattle.words.specs.Stamps.{start_pair}
use Rattle.replica.specs.declared.Phase.{Phase}
use Rattle.replica.specs.declared.Phase.TheVariants.{Idle, Querying, Updating}
use Rattle.replica.specs.declared.Sends.{Sends}
use Rattle.replica.specs.declared.Sends.TheVariants.{Nothing, Reply, Broadcast}
use Rattle.replica.specs.declared.Ended.{Ended}
use Rattle.replica.specs.declared.Ended.TheVariants.{Pending, Query, At}

-- nothing is no message, a reply is 1, a broadcast is one to each of N processes
abbrev pub sent_by : ℕ → Sends → ℕ
sent_by n Nothing = 0
sent_by n (Reply to letter) = 1
sent_by n (Broadcast letter) = n

-- the response time, 0 while pending
abbrev pub answered_at : Ended → ℕ
answered_at Pending = 0
answered_at (Query who) = 0
answered_at (At time pair who) = time.0

-- the pair that a completed operation chose, ((0, 0), 0) while pending
abbrev pub chosen_by : Ended → Pair
chosen_by Pending = start_pair
chosen_by (Query who) = start_pair
chosen_by (At time pair who) = pair

-- the set of processes whose replies ended the phase, nobody where none ended
abbrev pub ended_by : Ended → ℕ
ended_by Pending = 0
ended_by (Query who) = who
ended_by (At time pair who) = who

-- the row that a waiting replica points to, 0 while idle
abbrev pub pointed : Phase → ℕ
pointed Idle = 0
pointed (Querying row gathered) = row
pointed (Updating row sent) = row
