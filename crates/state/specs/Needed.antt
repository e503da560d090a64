-- How many replies end a phase. What is said of a phase's end is said through this.
use Rattle.std.specs.Prelude.{ℕ}
use Rattle.words.specs.Quorum.{majority_of}
use Rattle.replica.specs.declared.Phase.{Phase}
use Rattle.replica.specs.declared.Phase.TheVariants.{Idle, Querying, Updating}
use Rattle.state.specs.State.{State}

-- responses that end a query phase, and acks that end an update phase
abbrev pub responses_needed : State → ℕ
responses_needed s = majority_of s.n

abbrev pub acks_needed : State → ℕ
acks_needed s = majority_of s.n

-- an idle process waits for none; 1 stands in, which its empty set is below
abbrev pub needed : State → Phase → ℕ
needed s Idle = 1
needed s (Querying row gathered) = responses_needed s
needed s (Updating row sent) = acks_needed s
