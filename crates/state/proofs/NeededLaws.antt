-- How many replies end a phase: at least one, and as many in every state of one run.
use Rattle.std.specs.Prelude.{ℕ, ◌<◌, ◌≡◌, refl}
use Rattle.std.proofs.Common.{arith}
use Rattle.words.specs.Quorum.{counted}
use Rattle.words.specs.QuorumLaws.{counted-empty}
use Rattle.replica.specs.declared.Phase.{Phase}
use Rattle.replica.specs.declared.Phase.TheVariants.{Idle, Querying, Updating}
use Rattle.state.specs.State.{State}
use Rattle.state.specs.Needed.{responses_needed, acks_needed, needed}

none-few : (s : State) (phase : Phase) → counted 0 < needed s phase
none-few s Idle = omega (arith, counted-empty)
none-few s (Querying row gathered) = omega (arith, counted-empty)
none-few s (Updating row sent) = omega (arith, counted-empty)

-- an empty set ends no phase
pub empty-few : (s : State) (phase : Phase) (repliers : ℕ) → repliers ≡ 0 → counted repliers < needed s phase
empty-few s phase repliers e = rw e (none-few s phase)

-- it is the same of every state of one run
pub responses-same : (s t : State) → t.n ≡ s.n → responses_needed t ≡ responses_needed s
responses-same s t e = cc

pub acks-same : (s t : State) → t.n ≡ s.n → acks_needed t ≡ acks_needed s
acks-same s t e = cc

pub needed-same : (s t : State) → t.n ≡ s.n → (phase : Phase) → needed t phase ≡ needed s phase
needed-same s t e Idle = refl
needed-same s t e (Querying row gathered) = responses-same s t e
needed-same s t e (Updating row sent) = acks-same s t e
