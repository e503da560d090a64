-- Sets that may end a query phase and an update phase have a process in common.
use Rattle.std.specs.Prelude.{ℕ, ◌+◌, ◌≤◌, ◌<◌}
use Rattle.std.proofs.Common.{arith}
use Rattle.words.specs.declared.Pair.{Pair}
use Rattle.words.specs.Quorum.{counted}
use Rattle.words.specs.QuorumLaws.{Inside, Shared, meet}
use Rattle.replica.specs.declared.Gathered.{Gathered}
use Rattle.replica.specs.declared.Phase.TheVariants.{Querying, Updating}
use Rattle.state.specs.State.{State}
use Rattle.state.specs.Needed.{responses_needed, acks_needed, needed}

-- R + W > N: a set of R processes of 1..N and one of W processes
pub quorums-meet : (n r w s t : ℕ) → n ≤ 7 → n < r + w → Inside n s → Inside n t → r ≤ counted s → w ≤ counted t → Shared n s t
quorums-meet n r w s t l more hs ht a b = meet n s t l hs ht (omega arith)

-- what is needed is that much
pub needed-overlap : (s : State) → s.n < responses_needed s + acks_needed s
needed-overlap s = omega arith

-- so a set that has responded and one that has acked meet
pub answers-meet : (s : State) → s.n ≤ 7 → (asked told : ℕ) → Inside s.n asked → Inside s.n told
    → responses_needed s ≤ counted asked → acks_needed s ≤ counted told → Shared s.n asked told
answers-meet s few asked told a b = quorums-meet s.n _ _ asked told few (needed-overlap s) a b

-- which are those that end a query phase and an update phase
module _ (s : State) (few : s.n ≤ 7) (row : ℕ) (gathered : Gathered) (other : ℕ) (sent : Pair) where
  pub phases-meet : (asked told : ℕ) → Inside s.n asked → Inside s.n told
      → needed s (Querying row gathered) ≤ counted asked → needed s (Updating other sent) ≤ counted told → Shared s.n asked told
  phases-meet = answers-meet s few
